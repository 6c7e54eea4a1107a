-- The tools that a module was produced with. Tool conventions, Producers Section.
use Rattle.std.specs.Prelude.{ℕ, ◌≤◌, Bool, ◌||◌, List, length, None, Ok, Err, codes, bytes_eq, if◌then◌else◌}
use Rattle.wasm_base.specs.FaultAt.{at_offset}
use Rattle.wasm_base.specs.Inner.{inner_section_at}
use Rattle.wasm_base.specs.Name.{name_limit, text_at}
use Rattle.wasm_base.specs.Outcome.{Outcome, ◌>>=◌}
use Rattle.wasm_base.specs.Section.{Section}
use Rattle.wasm_base.specs.Skip.{skipped_name_at}
use Rattle.wasm_base.specs.Window.{Place}
use Rattle.wasm_base.specs.declared.fault.Fault.TheVariants as Faults
use Rattle.wasm_custom.specs.declared.producers.ProducersField.{ProducersField}
use Rattle.wasm_custom.specs.declared.producers.ProducersFieldValue.{ProducersFieldValue}

-- whether a field may have this name
abbrev pub is_field_name : List ℕ → Bool
is_field_name name = bytes_eq name (codes "language") || bytes_eq name (codes "sdk")
    || bytes_eq name (codes "processed-by")

-- the name of a field: a text, which must be one of three; any other is a fault at its start
unfoldable pub field_name_at : Place → Outcome (List ℕ)
field_name_at p = do
  name ← text_at None p
  if is_field_name name.0 then Ok name else Err (at_offset Faults.ProducersField p.offset)

-- a value of a field, with the bytes of its texts
pub record ValueParts : Type 0 where
  pub name : List ℕ
  pub version : List ℕ

abbrev pub value_parts : ProducersFieldValue → ValueParts
value_parts value = record { name = value.name.now; version = value.version.now }

-- a value: two texts
unfoldable pub field_value_at : Place → Outcome ValueParts
field_value_at p = do
  name ← text_at None p
  version ← text_at None name.1
  Ok (record { name = name.0; version = version.0 }, version.1)

-- the place after a value, whose texts are skipped as names
unfoldable pub skipped_value_at : Place → Outcome (Unit {0})
skipped_value_at p = do
  name ← skipped_name_at p
  skipped_name_at name.1

-- Both of its texts are within the limit of skipped names.
abbrev pub IsShortValue : ProducersFieldValue → Type 0
IsShortValue value = (length value.name.now ≤ name_limit) × (length value.version.now ≤ name_limit)

-- a field, with the bytes of its name
pub record FieldParts : Type 0 where
  pub name : List ℕ
  pub values : Section

abbrev pub field_parts : ProducersField → FieldParts
field_parts field = record { name = field.name.now; values = field.values }

-- | a field of the producers section: one of three names, and a list of values; a value: two texts; neither longer
--   than what may be skipped [`is_field_name`, `field_value_at`, `IsShortValue`] <tool conventions, Producers
--   Section>
-- a field: its name, and a list of values
unfoldable pub field_at : Place → Outcome FieldParts
field_at p = do
  name ← field_name_at p
  values ← inner_section_at skipped_value_at name.1
  Ok (record { name = name.0; values = values.0 }, values.1)
