-- The bytes of imports and exports. Core specification, Binary format, Modules, Import Section and Export Section.
use Rattle.std.specs.Prelude.{◌≡◌, ℕ, ◌<◌, ◌^◌, Bool, true, false, List, ◌∷◌, ◌++◌}
use Rattle.wasm_encode.specs.Limits.{global_type_bytes, memory_type_bytes, table_type_bytes, tag_type_bytes}
use Rattle.wasm_encode.specs.Limits.{LimitsAllowed, MemoryFits, TableFits}
use Rattle.wasm_encode.specs.Names.{name_bytes, NameFits}
use Rattle.wasm_encode.specs.Numbers.{unsigned_bytes}
use Rattle.wasm_encode.specs.Types.{ValFits}
use Rattle.wasm_items.specs.Exports.{ExportParts}
use Rattle.wasm_items.specs.Imports.{ImportParts}
use Rattle.wasm_items.specs.declared.exports.ExternalKind.{ExternalKind}
use Rattle.wasm_items.specs.declared.exports.ExternalKind.TheVariants as Kinds
use Rattle.wasm_items.specs.declared.imports.TypeRef.{TypeRef}
use Rattle.wasm_items.specs.declared.imports.TypeRef.TheVariants as Refs

-- the byte of an external kind
abbrev pub kind_byte : ExternalKind → ℕ
kind_byte Kinds.Func = 0x00
kind_byte Kinds.Table = 0x01
kind_byte Kinds.Memory = 0x02
kind_byte Kinds.Global = 0x03
kind_byte Kinds.Tag = 0x04
kind_byte Kinds.FuncExact = 0x20

-- what is imported: its kind and its type
unfoldable pub type_ref_bytes : TypeRef → List ℕ
type_ref_bytes (Refs.Func index) = 0x00 ∷ unsigned_bytes index
type_ref_bytes (Refs.Table ty) = 0x01 ∷ table_type_bytes ty
type_ref_bytes (Refs.Memory ty) = 0x02 ∷ memory_type_bytes ty
type_ref_bytes (Refs.Global ty) = 0x03 ∷ global_type_bytes ty
type_ref_bytes (Refs.Tag ty) = 0x04 ∷ tag_type_bytes ty
type_ref_bytes (Refs.FuncExact index) = 0x20 ∷ unsigned_bytes index

abbrev pub TypeRefFits : TypeRef → Type 0
TypeRefFits (Refs.Func index) = index < 2 ^ 32
TypeRefFits (Refs.Table ty) = TableFits ty
TypeRefFits (Refs.Memory ty) = MemoryFits ty
TypeRefFits (Refs.Global ty) = ValFits ty.content_type
TypeRefFits (Refs.Tag ty) = ty.func_type_idx < 2 ^ 32
TypeRefFits (Refs.FuncExact index) = index < 2 ^ 32

abbrev pub TypeRefAllowed : (features : ℕ) → TypeRef → Type 0
TypeRefAllowed features (Refs.Table ty) = LimitsAllowed features ty.initial ty.maximum
TypeRefAllowed features (Refs.Memory ty) = LimitsAllowed features ty.initial ty.maximum
TypeRefAllowed features other = Unit {0}

-- | the bytes of an import, of what it is, and of an export; whether they fit [`type_ref_bytes`, `export_bytes`;
--   `ImportFits`, `TypeRefFits`, `ExportFits`] <Import Section; Export Section>
-- an import: two names and what it is
unfoldable pub import_bytes : ImportParts → List ℕ
import_bytes i = name_bytes i.from ++ (name_bytes i.name ++ type_ref_bytes i.ty)

pub record ImportFits (i : ImportParts) : Type 0 where
  pub from : NameFits i.from
  pub name : NameFits i.name
  pub ty : TypeRefFits i.ty

-- an export: a name, a kind and an index
unfoldable pub export_bytes : ExportParts → List ℕ
export_bytes e = name_bytes e.name ++ kind_byte e.kind ∷ unsigned_bytes e.index

-- Functions are exported as such, and never as exact ones.
abbrev pub is_exported : ExternalKind → Bool
is_exported Kinds.FuncExact = false
is_exported other = true

pub record ExportFits (e : ExportParts) : Type 0 where
  pub name : NameFits e.name
  pub kind : is_exported e.kind ≡ true
  pub index : e.index < 2 ^ 32
