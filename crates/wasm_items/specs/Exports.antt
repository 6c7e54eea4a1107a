-- Exports. Core specification, Binary format, Modules, Export Section.
use Rattle.std.specs.Prelude.{ℕ, List, Some, Ok, Err}
use Rattle.wasm_base.specs.FaultAt.{at_offset}
use Rattle.wasm_base.specs.Name.{name_limit, text_at}
use Rattle.wasm_base.specs.Number.{unsigned_at}
use Rattle.wasm_base.specs.Outcome.{Outcome, ◌>>=◌}
use Rattle.wasm_base.specs.Window.{Place}
use Rattle.wasm_base.specs.declared.fault.Fault.TheVariants.{ExactExport}
use Rattle.wasm_base.specs.declared.fault.NumberKind.TheVariants.{VarU32}
use Rattle.wasm_items.specs.Externals.{kind_at}
use Rattle.wasm_items.specs.declared.exports.Export.{Export}
use Rattle.wasm_items.specs.declared.exports.ExternalKind.{ExternalKind}
use Rattle.wasm_items.specs.declared.exports.ExternalKind.TheVariants.{FuncExact}

-- an export, with the bytes of its name
pub record ExportParts : Type 0 where
  pub name : List ℕ
  pub kind : ExternalKind
  pub index : ℕ

abbrev pub export_parts : Export → ExportParts
export_parts export = record { name = export.name.now; kind = export.kind; index = export.index }

-- the index after a kind, which can't be that of exact functions
abbrev pub export_index_at : ExternalKind → Place → Outcome ℕ
export_index_at FuncExact p = Err (at_offset ExactExport p.offset)
export_index_at kind p = unsigned_at VarU32 p

-- | an export: a name, a kind, an index; a kind of exact functions is refused [`export_index_at`] <Export Section>
-- an export: a name, a kind and an index
unfoldable pub export_at : Place → Outcome ExportParts
export_at p = do
  name ← text_at (Some name_limit) p
  kind ← kind_at name.1
  index ← export_index_at kind.0 kind.1
  Ok (record { name = name.0; kind = kind.0; index = index.0 }, index.1)
