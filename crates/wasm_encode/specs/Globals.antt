-- The bytes of globals. Core specification, Binary format, Modules, Global Section.
use Rattle.std.specs.Prelude.{◌≡◌, ℕ, ◌+◌, ◌<◌, ◌^◌, List, [], ◌++◌, length, Ok}
use Rattle.wasm_base.specs.Window.{Window, place, window_over}
use Rattle.wasm_encode.specs.Limits.{global_type_bytes}
use Rattle.wasm_encode.specs.ReadsBack.{spot}
use Rattle.wasm_encode.specs.Types.{ValFits}
use Rattle.wasm_items.specs.Init.{end_of_expression}
use Rattle.wasm_items.specs.Windows.{expression_window}
use Rattle.wasm_items.specs.declared.globals.Global.{Global}

-- the bytes of the expression of a global
abbrev pub init_bytes : Global → List ℕ
init_bytes g = (place (expression_window g.init_expr)).rest

-- | the bytes of a global: its type and its expression; whether it fits: its window is one constant expression; a
--   global as it is read at an offset [`GlobalFits`, `global_placed`] <Global Section>
-- a global: its type and its expression, whose bytes are copied
unfoldable pub global_bytes : Global → List ℕ
global_bytes g = global_type_bytes g.ty ++ init_bytes g

-- What a window has in front of its reader is one constant expression.
abbrev pub IsExpression : Window → Type 0
IsExpression w = end_of_expression (place w)
    ≡ Ok (tt, spot w.features ((place w).offset + length (place w).rest) [])

pub record GlobalFits (g : Global) : Type 0 where
  pub ty : ValFits g.ty.content_type
  pub init : IsExpression (expression_window g.init_expr)
  pub short : length (init_bytes g) < 2 ^ 31

-- the global as it is read with these features at an offset: the window of its expression is there
abbrev pub global_placed : (features offset : ℕ) → Global → Global
global_placed features offset g = record {
  ty = g.ty;
  init_expr = record { reader = window_over features (offset + length (global_type_bytes g.ty)) (init_bytes g) };
}
