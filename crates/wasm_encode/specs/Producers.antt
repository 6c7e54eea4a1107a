-- The bytes of producers. Tool conventions, Producers Section.
use Rattle.std.specs.Prelude.{◌≡◌, ℕ, ◌+◌, ◌<◌, ◌^◌, true, List, ◌++◌, length}
use Rattle.wasm_custom.specs.Producers.{FieldParts, ValueParts, is_field_name, skipped_value_at}
use Rattle.wasm_custom.specs.declared.producers.ProducersField.{ProducersField}
use Rattle.wasm_encode.specs.Lists.{IsList, list_bytes, list_placed}
use Rattle.wasm_encode.specs.Names.{name_bytes}
use Rattle.wasm_encode.specs.Texts.{TextFits}

-- | the bytes of a value of a producers field: its name and its version; of a field: one of three names, and a list
--   that is copied; whether they fit [`field_bytes`; `ValueFits`, `FieldFits`; `field_placed`] <tool conventions,
--   Producers Section>
-- a value: its name and its version
unfoldable pub value_bytes : ValueParts → List ℕ
value_bytes x = name_bytes x.name ++ name_bytes x.version

pub record ValueFits (x : ValueParts) : Type 0 where
  pub name : TextFits x.name
  pub version : TextFits x.version
  pub short : length (value_bytes x) < 2 ^ 32

-- a field: its name, and a list of values, whose bytes are copied
unfoldable pub field_bytes : FieldParts → List ℕ
field_bytes x = name_bytes x.name ++ list_bytes x.values

pub record FieldFits (x : FieldParts) : Type 0 where
  pub name : TextFits x.name
  pub known : is_field_name x.name ≡ true
  pub values : IsList skipped_value_at x.values
  pub short : length (field_bytes x) < 2 ^ 32

-- the field as it is read with these features at an offset: the window of its values is there
abbrev pub field_placed : (features offset : ℕ) → ProducersField → ProducersField
field_placed features offset x = record {
  name = x.name;
  values = list_placed features (offset + length (name_bytes x.name.now)) x.values;
}
