-- Derived comparisons decide whether two values are the same.
use Rattle.std.proofs.Common.{◌≡◌, ℕ, true, List, nat_eq, refl, subst, sym}
use lib.Pointwise.{pointwise}
use Rattle.std.specs.Cmp.Derive.{both_true}
use Rattle.std.specs.Cmp.Lexicographic.{same_text}
use Rattle.std.proofs.lemmas.Cmp.{nat_list_eq_equiv}
use denote.Struct.Field.{u32-field}
use Rattle.wasm_base.proofs.Deciding.{Decides, back, bare, both_of, number, truth, option, variants, field as field_of}
use Rattle.wasm_base.specs.Comparing.{DecidesWhether}
use Rattle.wasm_items.specs.Same.{IsSameImport, IsSameItem, IsSameExport}
use Rattle.wasm_items.specs.contracts.types.HeapTypePartialEq.TheImpl as HeapTypeCompared
use Rattle.wasm_items.specs.contracts.types.RefTypePartialEq.TheImpl as RefTypeCompared
use Rattle.wasm_items.specs.contracts.types.ValTypePartialEq.TheImpl as ValTypeCompared
use Rattle.wasm_items.specs.contracts.types.StorageTypePartialEq.TheImpl as StorageTypeCompared
use Rattle.wasm_items.specs.contracts.types.FieldTypePartialEq.TheImpl as FieldTypeCompared
use Rattle.wasm_items.specs.contracts.types.TableTypePartialEq.TheImpl as TableTypeCompared
use Rattle.wasm_items.specs.contracts.types.MemoryTypePartialEq.TheImpl as MemoryTypeCompared
use Rattle.wasm_items.specs.contracts.types.GlobalTypePartialEq.TheImpl as GlobalTypeCompared
use Rattle.wasm_items.specs.contracts.types.TagKindPartialEq.TheImpl as TagKindCompared
use Rattle.wasm_items.specs.contracts.types.TagTypePartialEq.TheImpl as TagTypeCompared
use Rattle.wasm_items.specs.contracts.imports.TypeRefPartialEq.TheImpl as TypeRefCompared
use Rattle.wasm_items.specs.contracts.exports.ExternalKindPartialEq.TheImpl as ExternalKindCompared
use Rattle.wasm_items.specs.contracts.imports.ImportPartialEq.TheImpl as ImportCompared
use Rattle.wasm_items.specs.contracts.imports.ImportItemCompactPartialEq.TheImpl as ImportItemCompactCompared
use Rattle.wasm_items.specs.contracts.exports.ExportPartialEq.TheImpl as ExportCompared
use Rattle.wasm_items.specs.declared.types.RefType.{RefType}
use Rattle.wasm_items.specs.declared.types.FieldType.{FieldType}
use Rattle.wasm_items.specs.declared.types.TableType.{TableType}
use Rattle.wasm_items.specs.declared.types.MemoryType.{MemoryType}
use Rattle.wasm_items.specs.declared.types.GlobalType.{GlobalType}
use Rattle.wasm_items.specs.declared.types.TagKind.{TagKind}
use Rattle.wasm_items.specs.declared.types.TagType.{TagType}
use Rattle.wasm_items.specs.declared.imports.Import.{Import}
use Rattle.wasm_items.specs.declared.imports.ImportItemCompact.{ImportItemCompact}
use Rattle.wasm_items.specs.declared.exports.Export.{Export}
use Rattle.wasm_items.specs.contracts.types.HeapType as Heap
use Rattle.wasm_items.specs.contracts.types.ValType as Value
use Rattle.wasm_items.specs.contracts.types.RefType as Reference
use Rattle.wasm_items.specs.contracts.types.TableType as Table
use Rattle.wasm_items.specs.contracts.types.MemoryType as Memory
use Rattle.wasm_items.specs.contracts.types.GlobalType as Global
use Rattle.wasm_items.specs.contracts.types.TagType as Tag
use Rattle.wasm_items.specs.contracts.types.StorageType as Storage
use Rattle.wasm_items.specs.declared.types.TagKind.TheVariants.{Exception}
use Rattle.wasm_items.specs.contracts.imports.TypeRef as External
use Rattle.wasm_items.specs.contracts.exports.ExternalKind as Exported

pub heap : Decides (HeapTypeCompared.ghosts).eq
heap = variants Heap.enum (field_of u32-field number, tt)

reference_same : (one other : RefType) → (RefTypeCompared.ghosts).eq one other ≡ true → one ≡ other
reference_same one other h =
    let p0 = both_of h in
    λ i. record { nullable = truth.same one.nullable other.nullable p0.0 i; heap = heap.same one.heap other.heap p0.1 i }

reference_itself : (one : RefType) → (RefTypeCompared.ghosts).eq one one ≡ true
reference_itself one = both_true (truth.itself one.nullable) (heap.itself one.heap)

pub reference : Decides (RefTypeCompared.ghosts).eq
reference = record { same = reference_same; itself = reference_itself }

pub value : Decides (ValTypeCompared.ghosts).eq
value = variants Value.enum (field_of Reference.the_field reference, tt)

pub storage : Decides (StorageTypeCompared.ghosts).eq
storage = variants Storage.enum (field_of Value.the_field value, tt)

field_same : (one other : FieldType) → (FieldTypeCompared.ghosts).eq one other ≡ true → one ≡ other
field_same one other h =
    let p0 = both_of h in
    λ i. record { storage = storage.same one.storage other.storage p0.0 i; mutable = truth.same one.mutable other.mutable p0.1 i }

field_itself : (one : FieldType) → (FieldTypeCompared.ghosts).eq one one ≡ true
field_itself one = both_true (storage.itself one.storage) (truth.itself one.mutable)

pub field : Decides (FieldTypeCompared.ghosts).eq
field = record { same = field_same; itself = field_itself }

table_same : (one other : TableType) → (TableTypeCompared.ghosts).eq one other ≡ true → one ≡ other
table_same one other h =
    let p0 = both_of h in
    let p1 = both_of p0.1 in
    let p2 = both_of p1.1 in
    let p3 = both_of p2.1 in
    λ i. record {
      element_type = reference.same one.element_type other.element_type p0.0 i;
      table64 = truth.same one.table64 other.table64 p1.0 i;
      initial = number.same one.initial other.initial p2.0 i;
      maximum = (option number).same one.maximum other.maximum p3.0 i;
      shared = truth.same one.shared other.shared p3.1 i;
    }

table_itself : (one : TableType) → (TableTypeCompared.ghosts).eq one one ≡ true
table_itself one = both_true (reference.itself one.element_type)
    (both_true (truth.itself one.table64) (both_true (number.itself one.initial)
    (both_true ((option number).itself one.maximum) (truth.itself one.shared))))

pub table : Decides (TableTypeCompared.ghosts).eq
table = record { same = table_same; itself = table_itself }

memory_same : (one other : MemoryType) → (MemoryTypeCompared.ghosts).eq one other ≡ true → one ≡ other
memory_same one other h =
    let p0 = both_of h in
    let p1 = both_of p0.1 in
    let p2 = both_of p1.1 in
    let p3 = both_of p2.1 in
    λ i. record {
      memory64 = truth.same one.memory64 other.memory64 p0.0 i;
      shared = truth.same one.shared other.shared p1.0 i;
      initial = number.same one.initial other.initial p2.0 i;
      maximum = (option number).same one.maximum other.maximum p3.0 i;
      page_size_log2 = (option number).same one.page_size_log2 other.page_size_log2 p3.1 i;
    }

memory_itself : (one : MemoryType) → (MemoryTypeCompared.ghosts).eq one one ≡ true
memory_itself one = both_true (truth.itself one.memory64) (both_true (truth.itself one.shared)
    (both_true (number.itself one.initial) (both_true ((option number).itself one.maximum) ((option number).itself one.page_size_log2))))

pub memory : Decides (MemoryTypeCompared.ghosts).eq
memory = record { same = memory_same; itself = memory_itself }

global_same : (one other : GlobalType) → (GlobalTypeCompared.ghosts).eq one other ≡ true → one ≡ other
global_same one other h =
    let p0 = both_of h in
    let p1 = both_of p0.1 in
    λ i. record {
      content_type = value.same one.content_type other.content_type p0.0 i;
      mutable = truth.same one.mutable other.mutable p1.0 i;
      shared = truth.same one.shared other.shared p1.1 i;
    }

global_itself : (one : GlobalType) → (GlobalTypeCompared.ghosts).eq one one ≡ true
global_itself one = both_true (value.itself one.content_type) (both_true (truth.itself one.mutable) (truth.itself one.shared))

pub global : Decides (GlobalTypeCompared.ghosts).eq
global = record { same = global_same; itself = global_itself }

-- of one variant alone
kind_same : (one other : TagKind) → (TagKindCompared.ghosts).eq one other ≡ true → one ≡ other
kind_same Exception Exception h = refl

kind_itself : (one : TagKind) → (TagKindCompared.ghosts).eq one one ≡ true
kind_itself Exception = refl

pub kind : Decides (TagKindCompared.ghosts).eq
kind = record { same = kind_same; itself = kind_itself }

tag_same : (one other : TagType) → (TagTypeCompared.ghosts).eq one other ≡ true → one ≡ other
tag_same one other h =
    let p0 = both_of h in
    λ i. record { kind = kind.same one.kind other.kind p0.0 i; func_type_idx = number.same one.func_type_idx other.func_type_idx p0.1 i }

tag_itself : (one : TagType) → (TagTypeCompared.ghosts).eq one one ≡ true
tag_itself one = both_true (kind.itself one.kind) (number.itself one.func_type_idx)

pub tag : Decides (TagTypeCompared.ghosts).eq
tag = record { same = tag_same; itself = tag_itself }

pub external : Decides (TypeRefCompared.ghosts).eq
external = variants External.enum (
  field_of u32-field number,
  (
    field_of Table.the_field table,
    (field_of Memory.the_field memory, (field_of Global.the_field global, (field_of Tag.the_field tag, (field_of u32-field number, tt)))),
  ),
)

pub exported : Decides (ExternalKindCompared.ghosts).eq
exported = bare Exported.the_type tt

text_same : (one other : List ℕ) → pointwise nat_eq one other ≡ true → one ≡ other
text_same one other h = same_text one other (sym h)

text_back : {one other : List ℕ} → one ≡ other → pointwise nat_eq one other ≡ true
text_back {one = one} is = subst (λ (x : List ℕ). pointwise nat_eq one x ≡ true) is (nat_list_eq_equiv.refl one)

import_same : (one other : Import) → (ImportCompared.ghosts).eq one other ≡ true → IsSameImport one other
import_same one other h =
    let p0 = both_of h in
    let p1 = both_of p0.1 in
    record {
      from = text_same one.module.now other.module.now p0.0;
      name = text_same one.name.now other.name.now p1.0;
      ty = external.same one.ty other.ty p1.1;
    }

import_back : (one other : Import) → IsSameImport one other → (ImportCompared.ghosts).eq one other ≡ true
import_back one other is = both_true (text_back is.from) (both_true (text_back is.name) (back external is.ty))

pub import : DecidesWhether IsSameImport (ImportCompared.ghosts).eq
import one other = (import_same one other, import_back one other)

item_same : (one other : ImportItemCompact) → (ImportItemCompactCompared.ghosts).eq one other ≡ true → IsSameItem one other
item_same one other h =
    let p0 = both_of h in
    record { name = text_same one.name.now other.name.now p0.0; ty = external.same one.ty other.ty p0.1 }

item_back : (one other : ImportItemCompact) → IsSameItem one other → (ImportItemCompactCompared.ghosts).eq one other ≡ true
item_back one other is = both_true (text_back is.name) (back external is.ty)

pub item : DecidesWhether IsSameItem (ImportItemCompactCompared.ghosts).eq
item one other = (item_same one other, item_back one other)

export_same : (one other : Export) → (ExportCompared.ghosts).eq one other ≡ true → IsSameExport one other
export_same one other h =
    let p0 = both_of h in
    let p1 = both_of p0.1 in
    record {
      name = text_same one.name.now other.name.now p0.0;
      kind = exported.same one.kind other.kind p1.0;
      index = number.same one.index other.index p1.1;
    }

export_back : (one other : Export) → IsSameExport one other → (ExportCompared.ghosts).eq one other ≡ true
export_back one other is = both_true (text_back is.name) (both_true (back exported is.kind) (back number is.index))

pub export : DecidesWhether IsSameExport (ExportCompared.ghosts).eq
export one other = (export_same one other, export_back one other)
