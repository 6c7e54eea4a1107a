-- What a dynamic linker reads. Tool conventions, Dynamic Linking, The "dylink.0" Section.
use Rattle.std.specs.declared.ops.Range.{Range}
use Rattle.std.specs.Prelude.{ℕ, List, [], ◌∷◌, None, Result, Ok, map}
use Rattle.wasm_base.specs.FaultAt.{FaultAt}
use Rattle.wasm_base.specs.Leading.{lookup_or}
use Rattle.wasm_base.specs.Name.{text_at}
use Rattle.wasm_base.specs.Number.{unsigned_at}
use Rattle.wasm_base.specs.Outcome.{Outcome, ◌>>=◌}
use Rattle.wasm_base.specs.Owned.{list_at}
use Rattle.wasm_base.specs.Window.{Window, Place, place, rest_range}
use Rattle.wasm_base.specs.declared.fault.NumberKind.TheVariants.{VarU32}
use Rattle.wasm_custom.specs.Flags.{symbol_bits}
use Rattle.wasm_custom.specs.declared.dylink0.Dylink0Subsection.{Dylink0Subsection}
use Rattle.wasm_custom.specs.declared.dylink0.Dylink0Subsection.TheVariants as Dylinks
use Rattle.wasm_custom.specs.declared.dylink0.ExportInfo.{ExportInfo}
use Rattle.wasm_custom.specs.declared.dylink0.ImportInfo.{ImportInfo}
use Rattle.wasm_custom.specs.declared.dylink0.MemInfo.{MemInfo}

-- | what a dynamic linker reads of memory, exports and imports; a subsection, by its id, whose trailing bytes are
--   ignored [`export_info_at`, `import_info_at`, `dylink_subsection_in`] <tool conventions, Dynamic Linking>
-- how much memory and table a library needs, and their alignments
unfoldable pub mem_info_at : Place → Outcome MemInfo
mem_info_at p = do
  memory ← unsigned_at VarU32 p
  memory_alignment ← unsigned_at VarU32 memory.1
  table ← unsigned_at VarU32 memory_alignment.1
  table_alignment ← unsigned_at VarU32 table.1
  Ok (
    record {
      memory_size = memory.0;
      memory_alignment = memory_alignment.0;
      table_size = table.0;
      table_alignment = table_alignment.0;
    },
    table_alignment.1,
  )

-- information about an export, with the bytes of its name and its flags
pub record ExportInfoParts : Type 0 where
  pub name : List ℕ
  pub flags : ℕ

abbrev pub export_info_parts : ExportInfo → ExportInfoParts
export_info_parts info = record { name = info.name.now; flags = symbol_bits info.flags }

unfoldable pub export_info_at : Place → Outcome ExportInfoParts
export_info_at p = do
  name ← text_at None p
  flags ← unsigned_at VarU32 name.1
  Ok (record { name = name.0; flags = flags.0 }, flags.1)

-- information about an import, with the bytes of its names and its flags
pub record ImportInfoParts : Type 0 where
  pub from : List ℕ
  pub field : List ℕ
  pub flags : ℕ

abbrev pub import_info_parts : ImportInfo → ImportInfoParts
import_info_parts info = record { from = info.module.now; field = info.field.now; flags = symbol_bits info.flags }

unfoldable pub import_info_at : Place → Outcome ImportInfoParts
import_info_at p = do
  from ← text_at None p
  field ← text_at None from.1
  flags ← unsigned_at VarU32 field.1
  Ok (record { from = from.0; field = field.0; flags = flags.0 }, flags.1)

-- a subsection for dynamic linkers, with the bytes of its texts; those that are texts by their id
pub data DylinkParts : Type 0 where
  memory_info : MemInfo → DylinkParts
  texts : (id : ℕ) (names : List (List ℕ)) → DylinkParts
  exports : List ExportInfoParts → DylinkParts
  imports : List ImportInfoParts → DylinkParts
  arch : (text : List ℕ) → DylinkParts
  unknown : (id : ℕ) (contents : List ℕ) (range : Range ℕ) → DylinkParts

abbrev pub dylink_parts : {A : Type 0} → Dylink0Subsection A → DylinkParts
dylink_parts (Dylinks.MemInfo info) = memory_info info
dylink_parts (Dylinks.Needed names) = texts 2 (map (λ name. name.now) names.items)
dylink_parts (Dylinks.ExportInfo infos) = exports (map export_info_parts infos.items)
dylink_parts (Dylinks.ImportInfo infos) = imports (map import_info_parts infos.items)
dylink_parts (Dylinks.RuntimePath names) = texts 5 (map (λ name. name.now) names.items)
dylink_parts (Dylinks.TargetArch name) = arch name.now
dylink_parts (Dylinks.Unknown id contents range) = unknown id contents.now range

-- the value at the start of a window; bytes after it are ignored
abbrev pub begins_with : {A : Type 0} → (A → DylinkParts) → (Place → Outcome A) → Window → Result DylinkParts FaultAt
begins_with parts reading w = do
  value ← reading (place w)
  Ok (parts value.0)

-- a subsection for dynamic linkers, by its id
unfoldable pub dylink_subsection_in : (id : ℕ) → Window → Result DylinkParts FaultAt
dylink_subsection_in id = lookup_or (λ w. Ok (unknown id (place w).rest (rest_range w)))
    ((1, begins_with memory_info mem_info_at) ∷ (2, begins_with (texts 2) (list_at (text_at None)))
    ∷ (3, begins_with exports (list_at export_info_at)) ∷ (4, begins_with imports (list_at import_info_at))
    ∷ (5, begins_with (texts 5) (list_at (text_at None))) ∷ (6, begins_with arch (text_at None)) ∷ []) id
