-- Imports. Core specification, Binary format, Modules, Import Section, and Types, External Types; the bundles are of
-- the proposal for compact imports.
use Rattle.std.specs.Prelude.{ℕ, ◌==◌, List, [], ◌∷◌, length, Some, Ok, Err, if◌then◌else◌}
use Rattle.wasm_base.specs.Features.{takes_import_bundles}
use Rattle.wasm_base.specs.Leading.{lookup_or}
use Rattle.wasm_base.specs.FaultAt.{at_offset}
use Rattle.wasm_base.specs.Name.{name_limit, text_at, peeked_byte_at}
use Rattle.wasm_base.specs.Number.{unsigned_at}
use Rattle.wasm_base.specs.Outcome.{Outcome, ◌>>=◌}
use Rattle.wasm_base.specs.Section.{Section}
use Rattle.wasm_base.specs.Skip.{skipped_name_at}
use Rattle.wasm_base.specs.Window.{Place, advanced}
use Rattle.wasm_base.specs.declared.fault.Fault.{Fault}
use Rattle.wasm_base.specs.declared.fault.Fault.TheVariants.{Compact7F, Compact7E}
use Rattle.wasm_base.specs.declared.fault.NumberKind.TheVariants.{VarU32}
use Rattle.wasm_items.specs.Externals.{kind_at}
use Rattle.wasm_items.specs.Globals.{global_type_at}
use Rattle.wasm_base.specs.Inner.{inner_section_at}
use Rattle.wasm_items.specs.Memories.{memory_type_at}
use Rattle.wasm_items.specs.Tables.{table_type_at}
use Rattle.wasm_items.specs.Tags.{tag_type_at}
use Rattle.wasm_items.specs.declared.exports.ExternalKind.{ExternalKind}
use Rattle.wasm_items.specs.declared.exports.ExternalKind.TheVariants as Kinds
use Rattle.wasm_items.specs.declared.imports.Import.{Import}
use Rattle.wasm_items.specs.declared.imports.ImportItemCompact.{ImportItemCompact}
use Rattle.wasm_items.specs.declared.imports.Imports.{Imports}
use Rattle.wasm_items.specs.declared.imports.Imports.TheVariants.{Single, Compact1, Compact2}
use Rattle.wasm_items.specs.declared.imports.TypeRef.{TypeRef}
use Rattle.wasm_items.specs.declared.imports.TypeRef.TheVariants as Types

-- a type by a reading of its parts
abbrev pub as_type : {A : Type 0} → (A → TypeRef) → Outcome A → Outcome TypeRef
as_type type_of (Ok part) = Ok (type_of part.0, part.1)
as_type type_of (Err e) = Err e

-- the type of what is imported, after its kind: that of a function is an index
abbrev pub type_of_kind_at : ExternalKind → Place → Outcome TypeRef
type_of_kind_at Kinds.Func p = as_type Types.Func (unsigned_at VarU32 p)
type_of_kind_at Kinds.Table p = as_type Types.Table (table_type_at p)
type_of_kind_at Kinds.Memory p = as_type Types.Memory (memory_type_at p)
type_of_kind_at Kinds.Global p = as_type Types.Global (global_type_at p)
type_of_kind_at Kinds.Tag p = as_type Types.Tag (tag_type_at p)
type_of_kind_at Kinds.FuncExact p = as_type Types.FuncExact (unsigned_at VarU32 p)

-- | what is imported: a kind and its type; an import: two names and what it is; an import of a bundle: a name and
--   what it is [`import_at`, `item_at`] <Types, External Types; Import Section; compact imports>
-- what is imported: a kind, and its type
unfoldable pub type_ref_at : Place → Outcome TypeRef
type_ref_at p = do
  kind ← kind_at p
  type_of_kind_at kind.0 kind.1

-- an import, with the bytes of its names
pub record ImportParts : Type 0 where
  pub from : List ℕ
  pub name : List ℕ
  pub ty : TypeRef

-- | what of an item counts: its fields, names as their bytes [`item_parts`, `bundle_parts`; `Exports.export_parts`]
abbrev pub import_parts : Import → ImportParts
import_parts i = record { from = i.module.now; name = i.name.now; ty = i.ty }

-- an import: the name of a module, its name there, and what it is
unfoldable pub import_at : Place → Outcome ImportParts
import_at p = do
  from ← text_at (Some name_limit) p
  name ← text_at (Some name_limit) from.1
  ty ← type_ref_at name.1
  Ok (record { from = from.0; name = name.0; ty = ty.0 }, ty.1)

-- an import of a bundle, with the bytes of its name
pub record ItemParts : Type 0 where
  pub name : List ℕ
  pub ty : TypeRef

abbrev pub item_parts : ImportItemCompact → ItemParts
item_parts i = record { name = i.name.now; ty = i.ty }

-- an import of a bundle of imports from one module: its name, and what it is
unfoldable pub item_at : Place → Outcome ItemParts
item_at p = do
  name ← text_at (Some name_limit) p
  ty ← type_ref_at name.1
  Ok (record { name = name.0; ty = ty.0 }, ty.1)

-- the place after a skipped import of a bundle, whose name isn't checked to be UTF-8
unfoldable pub skipped_item_at : Place → Outcome (Unit {0})
skipped_item_at p = do
  name ← skipped_name_at p
  ty ← type_ref_at name.1
  Ok (tt, ty.1)

-- | an item of an import section: one import, with its offset; imports of one module; names of imports of one module
--   and one type [`bundle_at`] <Import Section; compact imports>
-- an item of an import section: one import and its offset, imports of one module, or names of imports of one module
-- and one type
pub data Bundle : Type 0 where
  single : (offset : ℕ) (one : ImportParts) → Bundle
  of_module : (from : List ℕ) (items : Section) → Bundle
  of_type : (from : List ℕ) (ty : TypeRef) (names : Section) → Bundle

abbrev pub bundle_parts : Imports → Bundle
bundle_parts (Single offset one) = single offset (import_parts one)
bundle_parts (Compact1 from items) = of_module from.now items
bundle_parts (Compact2 from ty names) = of_type from.now ty names

-- | after the byte of a bundle, if bundles are enabled; without the feature the fault is at that byte
-- the byte of a bundle; this fault at the byte if bundles aren't accepted
abbrev pub bundle_byte_at : Fault → Place → Outcome (Unit {0})
bundle_byte_at fault p =
    if takes_import_bundles p.features then Ok (tt, advanced 1 p) else Err (at_offset fault p.offset)

-- imports of one module: the byte 0x7F, and a list of them
unfoldable pub module_bundle_at : (from : List ℕ) → Place → Outcome Bundle
module_bundle_at from p = do
  byte ← bundle_byte_at Compact7F p
  items ← inner_section_at skipped_item_at byte.1
  Ok (of_module from items.0, items.1)

-- imports of one module and one type: the byte 0x7E, the type, and a list of names
unfoldable pub type_bundle_at : (from : List ℕ) → Place → Outcome Bundle
type_bundle_at from p = do
  byte ← bundle_byte_at Compact7E p
  ty ← type_ref_at byte.1
  names ← inner_section_at skipped_name_at ty.1
  Ok (of_type from ty.0 names.0, names.1)

-- one import after its two names
unfoldable pub single_at : (start : ℕ) (from name : List ℕ) → Place → Outcome Bundle
single_at start from name p = do
  ty ← type_ref_at p
  Ok (single start (record { from = from; name = name; ty = ty.0 }), ty.1)

-- | how an item of an import section continues: a bundle has an empty second name and the byte 0x7F or 0x7E after it
--   <compact imports>
-- An item of an import section after its two names, by the next byte: a bundle has an empty second name, and a byte
-- that isn't an external kind.
abbrev pub bundle_after_names : (start : ℕ) (from name : List ℕ) → (byte : ℕ) → Place → Outcome Bundle
bundle_after_names start from name byte =
    if length name == 0
    then lookup_or (single_at start from name) ((0x7F, module_bundle_at from) ∷ (0x7E, type_bundle_at from) ∷ []) byte
    else single_at start from name

-- an item of an import section
unfoldable pub bundle_at : Place → Outcome Bundle
bundle_at p = do
  from ← text_at (Some name_limit) p
  name ← text_at (Some name_limit) from.1
  byte ← peeked_byte_at name.1
  bundle_after_names p.offset from.0 name.0 byte.0 byte.1
