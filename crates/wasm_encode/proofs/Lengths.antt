-- The most bytes that types have.
use Rattle.std.proofs.Common.{ℕ, ◌+◌, ◌-◌, ◌≤◌, ◌<◌, ◌^◌, Bool, true, false, List, [], ◌∷◌, ◌++◌, length, length-append, Option}
use Rattle.std.proofs.Common.{◌≡◌, Some, None, ap, sym, append-nil, arith, slice_index_or}
use Rattle.std.proofs.lemmas.List.Elements.{All-cons, All-nil}
use Rattle.wasm_encode.specs.Imports.{type_ref_bytes}
use Rattle.wasm_encode.specs.Limits.{maybe_number, limits_bytes, table_type_bytes, memory_type_bytes, global_type_bytes}
use Rattle.wasm_encode.specs.Limits.{tag_type_bytes, table_flags}
use Rattle.wasm_encode.specs.Names.{name_bytes, NameFits}
use Rattle.wasm_encode.specs.Numbers.{unsigned_bytes}
use Rattle.wasm_encode.specs.RecGroups.{storage_bytes, field_bytes, func_bytes, FuncFits, composite_bytes, CompositeFits}
use Rattle.wasm_encode.specs.RecGroups.{subtype_head, subtype_bytes, SubtypeFits}
use Rattle.wasm_encode.specs.Sections.{ListFits, content_bytes}
use Rattle.wasm_encode.specs.Types.{heap_byte, heap_index, heap_bytes_by, heap_bytes, ref_prefix, maybe_byte, ref_bytes, val_bytes}
use Rattle.wasm_encode.proofs.Numbers.{septets_few}
use Rattle.wasm_items.specs.declared.imports.TypeRef.{TypeRef}
use Rattle.wasm_items.specs.declared.imports.TypeRef.TheVariants as Refs
use Rattle.wasm_items.specs.declared.types.CompositeType.{CompositeType}
use Rattle.wasm_items.specs.declared.types.CompositeType.TheVariants as Composites
use Rattle.wasm_items.specs.declared.types.FieldType.{FieldType}
use Rattle.wasm_items.specs.declared.types.FuncType.{FuncType}
use Rattle.wasm_items.specs.declared.types.GlobalType.{GlobalType}
use Rattle.wasm_items.specs.declared.types.HeapType.{HeapType}
use Rattle.wasm_items.specs.declared.types.MemoryType.{MemoryType}
use Rattle.wasm_items.specs.declared.types.RefType.{RefType}
use Rattle.wasm_items.specs.declared.types.StorageType.{StorageType}
use Rattle.wasm_items.specs.declared.types.StorageType.TheVariants as Storages
use Rattle.wasm_items.specs.declared.types.SubType.{SubType}
use Rattle.wasm_items.specs.declared.types.TableType.{TableType}
use Rattle.wasm_items.specs.declared.types.TagType.{TagType}
use Rattle.wasm_items.specs.declared.types.ValType.{ValType}
use Rattle.wasm_items.specs.declared.types.ValType.TheVariants as Values

heap_by : (byte : Option ℕ) (index : ℕ) → length (heap_bytes_by byte index) ≤ 10
heap_by (Some byte) index = omega arith
heap_by None index = septets_few false 64 index

pub heap_few : (heap : HeapType) → length (heap_bytes heap) ≤ 10
unfolding heap_bytes
heap_few heap = heap_by (heap_byte heap) (heap_index heap)

maybe_few : (byte : Option ℕ) → length (maybe_byte byte) ≤ 1
maybe_few (Some byte) = omega arith
maybe_few None = omega arith

pub ref_few : (ty : RefType) → length (ref_bytes ty) ≤ 11
unfolding ref_bytes
ref_few ty =
    let p : Option ℕ = ref_prefix ty.nullable (heap_byte ty.heap) in
    omega (arith, length-append (maybe_byte p) (heap_bytes ty.heap), maybe_few p, heap_few ty.heap)

pub val_few : (ty : ValType) → length (val_bytes ty) ≤ 11
unfolding val_bytes
val_few Values.I32 = omega arith
val_few Values.I64 = omega arith
val_few Values.F32 = omega arith
val_few Values.F64 = omega arith
val_few Values.V128 = omega arith
val_few (Values.Ref ty) = ref_few ty

maximum_few : (maximum : Option ℕ) → length (maybe_number maximum) ≤ 10
maximum_few (Some n) = septets_few false 128 n
maximum_few None = omega arith

pub limits_few : (initial : ℕ) (maximum : Option ℕ) → length (limits_bytes initial maximum) ≤ 20
unfolding limits_bytes
limits_few initial maximum =
    omega (arith, length-append (unsigned_bytes initial) (maybe_number maximum), septets_few false 128 initial, maximum_few maximum)

pub table_few : (ty : TableType) → length (table_type_bytes ty) ≤ 32
unfolding table_type_bytes
table_few ty = omega (
  arith,
  length-append (ref_bytes ty.element_type) (table_flags ty ∷ limits_bytes ty.initial ty.maximum),
  ref_few ty.element_type,
  limits_few ty.initial ty.maximum,
)

pub memory_few : (ty : MemoryType) → length (memory_type_bytes ty) ≤ 31
unfolding memory_type_bytes
memory_few ty = omega (
  arith,
  length-append (limits_bytes ty.initial ty.maximum) (maybe_number ty.page_size_log2),
  limits_few ty.initial ty.maximum,
  maximum_few ty.page_size_log2,
)

pub global_few : (ty : GlobalType) → length (global_type_bytes ty) ≤ 12
unfolding global_type_bytes
global_few ty = simp length-append (omega (arith, val_few ty.content_type))

pub tag_few : (ty : TagType) → length (tag_type_bytes ty) ≤ 11
unfolding tag_type_bytes
tag_few ty = omega (arith, septets_few false 128 ty.func_type_idx)

pub type_ref_few : (ty : TypeRef) → length (type_ref_bytes ty) ≤ 33
unfolding type_ref_bytes
type_ref_few (Refs.Func index) = omega (arith, septets_few false 128 index)
type_ref_few (Refs.Table ty) = omega (arith, table_few ty)
type_ref_few (Refs.Memory ty) = omega (arith, memory_few ty)
type_ref_few (Refs.Global ty) = omega (arith, global_few ty)
type_ref_few (Refs.Tag ty) = omega (arith, tag_few ty)
type_ref_few (Refs.FuncExact index) = omega (arith, septets_few false 128 index)

pub name_few : (text : List ℕ) → NameFits text → length (name_bytes text) ≤ 100010
name_few text h = let short = h.short in
    omega (arith, length-append (unsigned_bytes (length text)) text, septets_few false 128 (length text))

pub storage_few : (storage : StorageType) → length (storage_bytes storage) ≤ 11
unfolding storage_bytes
storage_few Storages.I8 = omega arith
storage_few Storages.I16 = omega arith
storage_few (Storages.Val ty) = val_few ty

pub field_few : (field : FieldType) → length (field_bytes field) ≤ 12
unfolding field_bytes
field_few field = simp length-append (omega (arith, storage_few field.storage))

pub func_few : (ty : FuncType) → FuncFits ty → length (func_bytes ty) < 2 ^ 31
unfolding func_bytes
func_few ty h =
    let params = h.params.short in
    let results = h.results.short in
    omega (arith, length-append (content_bytes val_bytes ty.params) (content_bytes val_bytes ty.results), params, results)

pub composite_few : (ty : CompositeType) → CompositeFits ty → length (composite_bytes ty) ≤ 2 ^ 31
unfolding composite_bytes
composite_few (Composites.Func function) h = omega (arith, func_few function h)
composite_few (Composites.Array element) h = omega (arith, field_few element)
composite_few (Composites.Struct fields) h = let short = h.short in omega (arith, short)

head_few : (final : Bool) (supertype : Option ℕ) → length (subtype_head final supertype) ≤ 12
head_few true None = omega arith
head_few false None = omega arith
head_few final (Some index) = omega (arith, septets_few false 128 index)

subtype_few : (ty : SubType) → SubtypeFits ty → length (subtype_bytes ty) ≤ 2 ^ 31 + 12
unfolding subtype_bytes
subtype_few ty h =
    let head = subtype_head ty.is_final ty.supertype in
    omega (
      arith,
      length-append head (composite_bytes ty.composite),
      head_few ty.is_final ty.supertype,
      composite_few ty.composite h.composite,
    )

-- a subtype that fits is short enough for a group of its own
pub one_type : (ty : SubType) → SubtypeFits ty → ListFits (2 ^ 32 - 1) subtype_bytes SubtypeFits (ty ∷ [])
one_type ty h =
    let size : length (subtype_bytes ty) ≤ 2 ^ 31 + 12 = subtype_few ty h in
    record {
      each = All-cons SubtypeFits ty [] h (All-nil SubtypeFits);
      few = omega arith;
      short = omega (
        arith,
        size,
        ap length (append-nil (subtype_bytes ty)),
        length-append (unsigned_bytes 1) (subtype_bytes ty ++ []),
        septets_few false 128 1,
      );
    }

-- a list of one item
pub only_one : {T : Type 0} (xs : List T) (x : T) → 1 ≤ length xs → length xs < 2 → x ≡ slice_index_or xs 0 x → xs ≡ x ∷ []
only_one [] x some few e = absurd (omega (arith, some))
only_one (y ∷ []) x some few e = ap (λ z. z ∷ []) (sym e)
only_one (y ∷ (z ∷ zs)) x some few e = absurd (omega (arith, few))
