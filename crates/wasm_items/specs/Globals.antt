-- Globals. Core specification, Binary format, Types, Global Types, and Modules, Global Section. That a global may be
-- shared is of the proposal for shared-everything threads.
use Rattle.std.specs.Prelude.{Ok, Err, nat_lt, if◌then◌else◌}
use Rattle.wasm_base.specs.Bits.{has_bit}
use Rattle.wasm_base.specs.FaultAt.{at_offset}
use Rattle.wasm_base.specs.Name.{byte_at}
use Rattle.wasm_base.specs.Outcome.{Outcome, ◌>>=◌}
use Rattle.wasm_base.specs.Window.{Place}
use Rattle.wasm_base.specs.declared.fault.Fault.TheVariants.{GlobalFlags}
use Rattle.wasm_items.specs.Init.{expression_at}
use Rattle.wasm_items.specs.Values.{val_type_at}
use Rattle.wasm_items.specs.declared.globals.Global.{Global}
use Rattle.wasm_items.specs.declared.types.GlobalType.{GlobalType}

-- | a global type: the type of its value, flags below 4; a global: its type and an expression [`global_at`] <Types,
--   Global Types; Global Section; shared-everything threads>
-- a global type: the type of its value, and flags below 4: bit 0 of a mutable one, bit 1 of a shared one
unfoldable pub global_type_at : Place → Outcome GlobalType
global_type_at p = do
  content ← val_type_at p
  flags ← byte_at content.1
  if nat_lt 3 flags.0 then Err (at_offset GlobalFlags content.1.offset) else
      Ok (record { content_type = content.0; mutable = has_bit flags.0 0; shared = has_bit flags.0 1 }, flags.1)

-- a global: its type, and the expression of its initial value
unfoldable pub global_at : Place → Outcome Global
global_at p = do
  ty ← global_type_at p
  init ← expression_at ty.1
  Ok (record { ty = ty.0; init_expr = record { reader = init.0 } }, init.1)
