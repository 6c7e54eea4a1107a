-- Tags. Core specification, Binary format, Types, Tag Types, and Modules, Tag Section.
use Rattle.std.specs.Prelude.{◌==◌, Ok, Err, if◌then◌else◌}
use Rattle.wasm_base.specs.FaultAt.{at_offset}
use Rattle.wasm_base.specs.Name.{byte_at}
use Rattle.wasm_base.specs.Number.{unsigned_at}
use Rattle.wasm_base.specs.Outcome.{Outcome, ◌>>=◌}
use Rattle.wasm_base.specs.Window.{Place}
use Rattle.wasm_base.specs.declared.fault.Fault.TheVariants.{TagAttributes}
use Rattle.wasm_base.specs.declared.fault.NumberKind.TheVariants.{VarU32}
use Rattle.wasm_items.specs.declared.types.TagKind.TheVariants.{Exception}
use Rattle.wasm_items.specs.declared.types.TagType.{TagType}

-- the index of a tag's type, as a tag of exceptions
abbrev pub exception_at : Place → Outcome TagType
exception_at p = do
  index ← unsigned_at VarU32 p
  Ok (record { kind = Exception; func_type_idx = index.0 }, index.1)

-- | a tag type: 0x00 and the index of a type <Types, Tag Types; Tag Section>
unfoldable pub tag_type_at : Place → Outcome TagType
tag_type_at p = do
  attribute ← byte_at p
  if attribute.0 == 0x00 then exception_at attribute.1 else Err (at_offset TagAttributes p.offset)
