-- The bytes of imports and exports are read as these.
use Rattle.std.proofs.Common.{◌≡◌, ℕ, ◌<◌, ◌^◌, true, List, [], ◌∷◌, ◌++◌, Some, Ok, refl}
use Rattle.wasm_base.specs.Item.{ReadsAs}
use Rattle.wasm_base.specs.Leading.{in_table}
use Rattle.wasm_base.specs.Name.{name_limit, text_at}
use Rattle.wasm_base.specs.Number.{unsigned_at}
use Rattle.wasm_base.specs.Outcome.{Outcome, ◌>>=◌}
use Rattle.wasm_base.specs.Window.{Place}
use Rattle.wasm_base.specs.declared.fault.NumberKind.TheVariants.{VarU32}
use Rattle.wasm_encode.specs.Imports.{kind_byte, type_ref_bytes, TypeRefFits, TypeRefAllowed, import_bytes, ImportFits}
use Rattle.wasm_encode.specs.Imports.{export_bytes, is_exported, ExportFits}
use Rattle.wasm_encode.specs.Limits.{table_type_bytes, memory_type_bytes, global_type_bytes, tag_type_bytes}
use Rattle.wasm_encode.specs.Names.{name_bytes}
use Rattle.wasm_encode.specs.Numbers.{unsigned_bytes}
use Rattle.wasm_encode.specs.ReadsBack.{Encodes}
use Rattle.wasm_encode.proofs.LimitsBack.{reads_table_type, reads_memory_type, reads_global_type, reads_tag_type}
use Rattle.wasm_encode.proofs.NamesBack.{reads_name}
use Rattle.wasm_encode.proofs.NumbersBack.{unsigned_at_spot}
use Rattle.wasm_encode.proofs.Readings.{Reads, reads_then, reads_as, encodes_so}
use Rattle.wasm_items.specs.Exports.{ExportParts, export_parts, export_index_at, export_at}
use Rattle.wasm_items.specs.Externals.{kind_at}
use Rattle.wasm_items.specs.Globals.{global_type_at}
use Rattle.wasm_items.specs.Memories.{memory_type_at}
use Rattle.wasm_items.specs.Tables.{table_type_at}
use Rattle.wasm_items.specs.Tags.{tag_type_at}
use Rattle.wasm_items.specs.Imports.{ImportParts, import_parts, as_type, type_of_kind_at, type_ref_at, import_at}
use Rattle.wasm_items.specs.declared.exports.Export.{Export}
use Rattle.wasm_items.specs.declared.exports.ExternalKind.{ExternalKind}
use Rattle.wasm_items.specs.declared.exports.ExternalKind.TheVariants as Kinds
use Rattle.wasm_items.specs.declared.imports.Import.{Import}
use Rattle.wasm_items.specs.declared.imports.TypeRef.{TypeRef}
use Rattle.wasm_items.specs.declared.imports.TypeRef.TheVariants as Refs

pub reads_u32 : (n features : ℕ) → n < 2 ^ 32 → Reads (unsigned_at VarU32) features n (unsigned_bytes n)
reads_u32 n features h = record { at = λ offset later. unsigned_at_spot VarU32 features offset n later refl h }

pub reads_kind : (kind : ExternalKind) (features : ℕ) → Reads kind_at features kind (kind_byte kind ∷ [])
unfolding in_table
reads_kind Kinds.Func features = record { at = λ offset later. refl }
reads_kind Kinds.Table features = record { at = λ offset later. refl }
reads_kind Kinds.Memory features = record { at = λ offset later. refl }
reads_kind Kinds.Global features = record { at = λ offset later. refl }
reads_kind Kinds.Tag features = record { at = λ offset later. refl }
reads_kind Kinds.FuncExact features = record { at = λ offset later. refl }

-- a type by its part
reads_type : {A : Type 0} (make : A → TypeRef) (reading : Place → Outcome A) (features : ℕ) (x : A) (bytes : List ℕ)
    → Reads reading features x bytes → Reads (λ p. as_type make (reading p)) features (make x) bytes
reads_type make reading features x bytes r = record { at = λ offset later. rw (r.at offset later) refl }

-- a type after its kind
kind_then : (kind : ExternalKind) (ty : TypeRef) (features : ℕ) (bytes : List ℕ) → Reads (type_of_kind_at kind) features ty bytes
    → Reads type_ref_at features ty (kind_byte kind ∷ bytes)
unfolding type_ref_at
kind_then kind ty features bytes r =
    reads_then kind_at type_of_kind_at features kind ty (kind_byte kind ∷ []) bytes (reads_kind kind features) r

pub reads_type_ref : (ty : TypeRef) (features : ℕ) → TypeRefFits ty → TypeRefAllowed features ty
    → Reads type_ref_at features ty (type_ref_bytes ty)
unfolding type_ref_bytes
reads_type_ref (Refs.Func index) features h a = kind_then Kinds.Func (Refs.Func index) features (unsigned_bytes index)
    (reads_type (λ n. Refs.Func n) (unsigned_at VarU32) features index (unsigned_bytes index) (reads_u32 index features h))
reads_type_ref (Refs.Table ty) features h a = kind_then Kinds.Table (Refs.Table ty) features (table_type_bytes ty)
    (reads_type (λ x. Refs.Table x) table_type_at features ty (table_type_bytes ty) (reads_table_type ty features h a))
reads_type_ref (Refs.Memory ty) features h a = kind_then Kinds.Memory (Refs.Memory ty) features (memory_type_bytes ty)
    (reads_type (λ x. Refs.Memory x) memory_type_at features ty (memory_type_bytes ty) (reads_memory_type ty features h a))
reads_type_ref (Refs.Global ty) features h a = kind_then Kinds.Global (Refs.Global ty) features (global_type_bytes ty)
    (reads_type (λ x. Refs.Global x) global_type_at features ty (global_type_bytes ty) (reads_global_type ty features h))
reads_type_ref (Refs.Tag ty) features h a = kind_then Kinds.Tag (Refs.Tag ty) features (tag_type_bytes ty)
    (reads_type (λ x. Refs.Tag x) tag_type_at features ty (tag_type_bytes ty) (reads_tag_type ty features h))
reads_type_ref (Refs.FuncExact index) features h a = kind_then Kinds.FuncExact (Refs.FuncExact index) features (unsigned_bytes index)
    (reads_type (λ n. Refs.FuncExact n) (unsigned_at VarU32) features index (unsigned_bytes index) (reads_u32 index features h))

pub type_ref_encodes : (ty : TypeRef) (features : ℕ) → TypeRefFits ty → TypeRefAllowed features ty
    → Encodes (ReadsAs (λ (x : TypeRef). x) type_ref_at) features (λ (offset : ℕ). ty) (type_ref_bytes ty)
type_ref_encodes ty features h a = encodes_so (λ x. x) type_ref_at features ty (type_ref_bytes ty) (reads_type_ref ty features h a)

reads_import : (i : ImportParts) (features : ℕ) → ImportFits i → TypeRefAllowed features i.ty → Reads import_at features i (import_bytes i)
unfolding import_at import_bytes
reads_import i features h a =
    reads_then (text_at (Some name_limit))
    (λ from p. text_at (Some name_limit) p >>= λ name. type_ref_at name.1 >>= λ ty.
    Ok (record { from = from; name = name.0; ty = ty.0 }, ty.1))
    features i.from i (name_bytes i.from) (name_bytes i.name ++ type_ref_bytes i.ty) (reads_name i.from features h.from)
    (reads_then (text_at (Some name_limit))
    (λ name p. type_ref_at p >>= λ ty. Ok (record { from = i.from; name = name; ty = ty.0 }, ty.1))
    features i.name i (name_bytes i.name) (type_ref_bytes i.ty) (reads_name i.name features h.name)
    (reads_as type_ref_at (λ ty. record { from = i.from; name = i.name; ty = ty }) features i.ty (type_ref_bytes i.ty)
    (reads_type_ref i.ty features h.ty a)))

pub import_encodes : (i : Import) (features : ℕ) → ImportFits (import_parts i) → TypeRefAllowed features i.ty
    → Encodes (ReadsAs import_parts import_at) features (λ (offset : ℕ). i) (import_bytes (import_parts i))
import_encodes i features h a =
    encodes_so import_parts import_at features i (import_bytes (import_parts i)) (reads_import (import_parts i) features h a)

-- the index of an export
reads_index : (kind : ExternalKind) (n features : ℕ) → is_exported kind ≡ true → n < 2 ^ 32
    → Reads (export_index_at kind) features n (unsigned_bytes n)
reads_index Kinds.Func n features e h = reads_u32 n features h
reads_index Kinds.Table n features e h = reads_u32 n features h
reads_index Kinds.Memory n features e h = reads_u32 n features h
reads_index Kinds.Global n features e h = reads_u32 n features h
reads_index Kinds.Tag n features e h = reads_u32 n features h
reads_index Kinds.FuncExact n features e h = cc

reads_export : (x : ExportParts) (features : ℕ) → ExportFits x → Reads export_at features x (export_bytes x)
unfolding export_at export_bytes
reads_export x features h =
    reads_then (text_at (Some name_limit))
    (λ name p. kind_at p >>= λ kind. export_index_at kind.0 kind.1 >>= λ index.
    Ok (record { name = name; kind = kind.0; index = index.0 }, index.1))
    features x.name x (name_bytes x.name) (kind_byte x.kind ∷ unsigned_bytes x.index) (reads_name x.name features h.name)
    (reads_then kind_at
    (λ kind p. export_index_at kind p >>= λ index. Ok (record { name = x.name; kind = kind; index = index.0 }, index.1))
    features x.kind x (kind_byte x.kind ∷ []) (unsigned_bytes x.index) (reads_kind x.kind features)
    (reads_as (export_index_at x.kind) (λ index. record { name = x.name; kind = x.kind; index = index }) features x.index
    (unsigned_bytes x.index) (reads_index x.kind x.index features h.kind h.index)))

pub export_encodes : (x : Export) (features : ℕ) → ExportFits (export_parts x)
    → Encodes (ReadsAs export_parts export_at) features (λ (offset : ℕ). x) (export_bytes (export_parts x))
export_encodes x features h =
    encodes_so export_parts export_at features x (export_bytes (export_parts x)) (reads_export (export_parts x) features h)
