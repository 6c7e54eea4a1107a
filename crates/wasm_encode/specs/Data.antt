-- The bytes of data segments. Core specification, Binary format, Modules, Data Section.
use Rattle.std.specs.Prelude.{ℕ, ◌+◌, ◌<◌, ◌^◌, ◌==◌, List, [], ◌∷◌, ◌++◌, length, if◌then◌else◌}
use Rattle.wasm_encode.specs.Expressions.{expression_bytes, expression_placed}
use Rattle.wasm_encode.specs.Globals.{IsExpression}
use Rattle.wasm_encode.specs.Numbers.{unsigned_bytes}
use Rattle.wasm_items.specs.Windows.{expression_window}
use Rattle.wasm_items.specs.declared.data.Data.{Data}
use Rattle.wasm_items.specs.declared.data.DataKind.{DataKind}
use Rattle.wasm_items.specs.declared.data.DataKind.TheVariants.{Passive, Active}
use Rattle.wasm_items.specs.declared.init.ConstExpr.{ConstExpr}

-- the flags of an active segment, and the index of its memory if that isn't 0
abbrev pub memory_bytes : (memory : ℕ) → List ℕ
memory_bytes memory = if memory == 0 then 0x00 ∷ [] else 0x02 ∷ unsigned_bytes memory

-- the flags of a segment, and for an active one its memory and the expression of its offset
abbrev pub data_kind_bytes : DataKind → List ℕ
data_kind_bytes Passive = 0x01 ∷ []
data_kind_bytes (Active memory offset) = memory_bytes memory ++ expression_bytes offset

-- | the bytes of a data segment: its flags, for an active one its memory and the expression of its offset, then a size
--   and as many bytes; whether it fits; a segment as it is read at an offset [`data_kind_bytes`, `memory_bytes`;
--   `DataFits`, `DataKindFits`, `ActiveFits`; `data_placed`, `data_kind_placed`] <Data Section>
-- a data segment: its kind, a size, and as many bytes
unfoldable pub data_bytes : Data → List ℕ
data_bytes segment =
    data_kind_bytes segment.kind ++ (unsigned_bytes (length segment.bytes.now) ++ segment.bytes.now)

-- An active segment has one constant expression, and the index of its memory is a u32.
pub record ActiveFits (memory : ℕ) (init : ConstExpr) : Type 0 where
  pub index : memory < 2 ^ 32
  pub offset : IsExpression (expression_window init)

abbrev pub DataKindFits : DataKind → Type 0
DataKindFits Passive = Unit {0}
DataKindFits (Active memory offset) = ActiveFits memory offset

pub record DataFits (segment : Data) : Type 0 where
  pub kind : DataKindFits segment.kind
  pub short : length (data_bytes segment) < 2 ^ 32

-- the kind as it is read with these features, where the segment begins at an offset
abbrev pub data_kind_placed : (features offset : ℕ) → DataKind → DataKind
data_kind_placed features offset Passive = Passive
data_kind_placed features offset (Active memory init) =
    Active memory (expression_placed features (offset + length (memory_bytes memory)) init)

-- the segment as it is read with these features at an offset
abbrev pub data_placed : (features offset : ℕ) → Data → Data
data_placed features offset segment = record {
  kind = data_kind_placed features offset segment.kind;
  bytes = segment.bytes;
  range = record { start = offset; end = offset + length (data_bytes segment) };
}
