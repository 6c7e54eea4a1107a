-- How types are hashed: structs field by field, enums as the number of the variant, from 0, and what it holds. This
-- project.
use Rattle.std.specs.Hash.{HashWrites, bool, u32, u64, isize, option}
use Rattle.std.specs.Prelude.{◌++◌, [], pos}
use Rattle.wasm_items.specs.declared.types.FieldType.{FieldType}
use Rattle.wasm_items.specs.declared.types.GlobalType.{GlobalType}
use Rattle.wasm_items.specs.declared.types.HeapType.{HeapType}
use Rattle.wasm_items.specs.declared.types.HeapType.TheVariants as Heaps
use Rattle.wasm_items.specs.declared.types.MemoryType.{MemoryType}
use Rattle.wasm_items.specs.declared.types.RefType.{RefType}
use Rattle.wasm_items.specs.declared.types.StorageType.{StorageType}
use Rattle.wasm_items.specs.declared.types.StorageType.TheVariants as Storages
use Rattle.wasm_items.specs.declared.types.TableType.{TableType}
use Rattle.wasm_items.specs.declared.types.TagKind.{TagKind}
use Rattle.wasm_items.specs.declared.types.TagKind.TheVariants as Tags
use Rattle.wasm_items.specs.declared.types.TagType.{TagType}
use Rattle.wasm_items.specs.declared.types.ValType.{ValType}
use Rattle.wasm_items.specs.declared.types.ValType.TheVariants as Values

abbrev pub hash_of_heap : HeapType → HashWrites
hash_of_heap Heaps.Func = isize (pos 0)
hash_of_heap Heaps.Extern = isize (pos 1)
hash_of_heap Heaps.Any = isize (pos 2)
hash_of_heap Heaps.Eq = isize (pos 3)
hash_of_heap Heaps.I31 = isize (pos 4)
hash_of_heap Heaps.Struct = isize (pos 5)
hash_of_heap Heaps.Array = isize (pos 6)
hash_of_heap Heaps.Exn = isize (pos 7)
hash_of_heap Heaps.None = isize (pos 8)
hash_of_heap Heaps.NoExtern = isize (pos 9)
hash_of_heap Heaps.NoFunc = isize (pos 10)
hash_of_heap Heaps.NoExn = isize (pos 11)
hash_of_heap (Heaps.Concrete index) = isize (pos 12) ++ u32 index

abbrev pub hash_of_reference : RefType → HashWrites
hash_of_reference ty = bool ty.nullable ++ hash_of_heap ty.heap

-- | what is hashed of a type: its fields in order, or the number of its case and its contents [and so on;
--   `wasm_custom`: `Hashed.hash_of_relocation` and so on]
abbrev pub hash_of_value : ValType → HashWrites
hash_of_value Values.I32 = isize (pos 0)
hash_of_value Values.I64 = isize (pos 1)
hash_of_value Values.F32 = isize (pos 2)
hash_of_value Values.F64 = isize (pos 3)
hash_of_value Values.V128 = isize (pos 4)
hash_of_value (Values.Ref ty) = isize (pos 5) ++ hash_of_reference ty

abbrev pub hash_of_storage : StorageType → HashWrites
hash_of_storage Storages.I8 = isize (pos 0)
hash_of_storage Storages.I16 = isize (pos 1)
hash_of_storage (Storages.Val ty) = isize (pos 2) ++ hash_of_value ty

abbrev pub hash_of_field : FieldType → HashWrites
hash_of_field ty = hash_of_storage ty.storage ++ bool ty.mutable

abbrev pub hash_of_table : TableType → HashWrites
hash_of_table ty = hash_of_reference ty.element_type ++ bool ty.table64 ++ u64 ty.initial ++ option u64 ty.maximum
    ++ bool ty.shared

abbrev pub hash_of_memory : MemoryType → HashWrites
hash_of_memory ty = bool ty.memory64 ++ bool ty.shared ++ u64 ty.initial ++ option u64 ty.maximum
    ++ option u32 ty.page_size_log2

abbrev pub hash_of_global : GlobalType → HashWrites
hash_of_global ty = hash_of_value ty.content_type ++ bool ty.mutable ++ bool ty.shared

-- the only variant needs no number
abbrev pub hash_of_kind : TagKind → HashWrites
hash_of_kind Tags.Exception = []

abbrev pub hash_of_tag : TagType → HashWrites
hash_of_tag ty = hash_of_kind ty.kind ++ u32 ty.func_type_idx
