-- The bytes of groups of types are read as these.
use Rattle.std.proofs.Common.{◌≡◌, ℕ, ◌+◌, ◌-◌, ◌==◌, ◌^◌, Bool, true, false, cond, List, [], ◌∷◌, ◌++◌, length, map, All}
use Rattle.std.proofs.Common.{Option, Some, None}
use Rattle.std.proofs.Common.{Ok, arith, ap, sym, ◌∙◌, subst, refl}
use Rattle.std.proofs.lemmas.Bool.{eqb-true}
use Rattle.std.proofs.lemmas.List.{map-id}
use Rattle.std.proofs.lemmas.List.Elements.{All-head, All-tail}
use Rattle.wasm_base.specs.Item.{ReadsAs}
use Rattle.wasm_base.specs.Leading.{in_table}
use Rattle.wasm_base.specs.Name.{peeked_byte_at}
use Rattle.wasm_base.specs.Number.{unsigned_at}
use Rattle.wasm_base.specs.Outcome.{Outcome, ◌>>=◌}
use Rattle.wasm_base.specs.Owned.{in_turn, list_at}
use Rattle.wasm_base.specs.Window.{Place, advanced}
use Rattle.wasm_base.specs.declared.fault.NumberKind.TheVariants.{VarU32}
use Rattle.wasm_encode.specs.Limits.{flag, IsBelow}
use Rattle.wasm_encode.specs.Numbers.{septets_of, unsigned_bytes}
use Rattle.wasm_encode.specs.ReadsBack.{spot, Encodes}
use Rattle.wasm_encode.specs.RecGroups.{storage_bytes, StorageFits, field_bytes, func_bytes, FuncFits, composite_bytes, CompositeFits}
use Rattle.wasm_encode.specs.RecGroups.{list_bound, subtype_head, subtype_bytes, SubtypeFits, group_bytes, GroupFits, is_counted}
use Rattle.wasm_encode.specs.Sections.{ListFits, content_bytes, items_bytes}
use Rattle.wasm_encode.specs.Types.{ValFits, heap_bytes, ref_bytes, val_bytes}
use Rattle.wasm_encode.proofs.ImportsBack.{reads_u32}
use Rattle.wasm_encode.proofs.Readings.{Reads, same_spot, reads_nothing, reads_then, reads_as, encodes_so}
use Rattle.wasm_encode.proofs.TypesBack.{reads_val}
use Rattle.wasm_items.specs.RecGroups.{value_storage_at, storage_type_at, mutability_at, field_type_at, function_parts, func_type_at}
use Rattle.wasm_items.specs.RecGroups.{functions, arrays, structures, composite_parts, functions_at, arrays_at}
use Rattle.wasm_items.specs.RecGroups.{structures_at}
use Rattle.wasm_items.specs.RecGroups.{composite_type_at, subtype_parts, one_supertype_at, supertypes_at, extending_at}
use Rattle.wasm_items.specs.RecGroups.{plain_subtype_at, subtype_at, RecGroupParts, rec_group_parts, whole_group_at}
use Rattle.wasm_items.specs.RecGroups.{single_group_at, rec_group_at}
use Rattle.wasm_items.specs.Values.{val_type_at}
use Rattle.wasm_items.specs.declared.types.CompositeType.{CompositeType}
use Rattle.wasm_items.specs.declared.types.CompositeType.TheVariants as Composites
use Rattle.wasm_items.specs.declared.types.FieldType.{FieldType}
use Rattle.wasm_items.specs.declared.types.FuncType.{FuncType}
use Rattle.wasm_items.specs.declared.types.HeapType.{HeapType}
use Rattle.wasm_items.specs.declared.types.HeapType.TheVariants as Heaps
use Rattle.wasm_items.specs.declared.types.RecGroup.{RecGroup}
use Rattle.wasm_items.specs.declared.types.StorageType.{StorageType}
use Rattle.wasm_items.specs.declared.types.StorageType.TheVariants as Storages
use Rattle.wasm_items.specs.declared.types.SubType.{SubType}
use Rattle.wasm_items.specs.declared.types.ValType.{ValType}
use Rattle.wasm_items.specs.declared.types.ValType.TheVariants as Values

-- ---- lists

-- this many items, one after the other, as far as a view of each goes
reads_items : {A B : Type 0} (view : A → B) (reading : Place → Outcome B) (encoded : A → List ℕ) (Such : A → Type 0) (features : ℕ)
    → ((x : A) → Such x → Reads reading features (view x) (encoded x)) → (xs : List A) → All Such xs
    → Reads (in_turn reading (length xs)) features (map view xs) (items_bytes encoded xs)
reads_items view reading encoded Such features each [] such = reads_nothing features []
reads_items view reading encoded Such features each (x ∷ xs) such =
    reads_then reading (λ first p. in_turn reading (length xs) p >>= λ others. Ok (first ∷ others.0, others.1))
    features (view x) (view x ∷ map view xs) (encoded x) (items_bytes encoded xs) (each x (All-head Such x xs such))
    (reads_as (in_turn reading (length xs)) (λ others. view x ∷ others) features (map view xs) (items_bytes encoded xs)
    (reads_items view reading encoded Such features each xs (All-tail Such x xs such)))

-- a list: its count and its items
pub reads_list : {A B : Type 0} (view : A → B) (reading : Place → Outcome B) (encoded : A → List ℕ) (Such : A → Type 0) (features bound : ℕ)
    → ((x : A) → Such x → Reads reading features (view x) (encoded x)) → (xs : List A) → ListFits bound encoded Such xs
    → Reads (list_at reading) features (map view xs) (content_bytes encoded xs)
reads_list view reading encoded Such features bound each xs h =
    reads_then (unsigned_at VarU32) (λ count p. in_turn reading count p) features (length xs) (map view xs)
    (unsigned_bytes (length xs)) (items_bytes encoded xs) (reads_u32 (length xs) features h.few)
    (reads_items view reading encoded Such features each xs h.each)

-- a list of items that are read as they are
pub reads_plain_list : {A : Type 0} (reading : Place → Outcome A) (encoded : A → List ℕ) (Such : A → Type 0) (features bound : ℕ)
    → ((x : A) → Such x → Reads reading features x (encoded x)) → (xs : List A) → ListFits bound encoded Such xs
    → Reads (list_at reading) features xs (content_bytes encoded xs)
reads_plain_list {A} reading encoded Such features bound each xs h =
    subst (λ (ys : List A). Reads (list_at reading) features ys (content_bytes encoded xs)) (map-id xs)
    (reads_list (λ x. x) reading encoded Such features bound each xs h)

-- ---- a first byte

-- a reading after a byte
after_byte : {A : Type 0} (reading : Place → Outcome A) (features byte : ℕ) (x : A) (bytes : List ℕ) → Reads reading features x bytes
    → (offset : ℕ) (later : List ℕ)
    → reading (spot features (offset + 1) (bytes ++ later)) ≡ Ok (x, spot features (offset + length (byte ∷ bytes)) later)
after_byte reading features byte x bytes r offset later = r.at (offset + 1) later
    ∙ same_spot features (offset + 1 + length bytes) (offset + length (byte ∷ bytes)) x later (omega arith)

-- a reading that first looks at a byte
reads_peeked : {A : Type 0} (reading : ℕ → Place → Outcome A) (features byte : ℕ) (x : A) (rest bytes : List ℕ) → bytes ≡ byte ∷ rest
    → Reads (reading byte) features x bytes → Reads (λ p. peeked_byte_at p >>= λ first. reading first.0 p) features x bytes
reads_peeked reading features byte x rest bytes e r =
    let one = subst (λ (xs : List ℕ). Reads (reading byte) features x xs) e r in
    subst (λ (xs : List ℕ). Reads (λ p. peeked_byte_at p >>= λ first. reading first.0 p) features x xs) (sym e)
    (record { at = one.at })

-- ---- fields

-- the first byte of a value type, which isn't that of a packed type
record ValFirst (bytes : List ℕ) : Type 0 where
  byte : ℕ
  rest : List ℕ
  is : bytes ≡ byte ∷ rest
  not_i8 : (byte == 0x78) ≡ false
  not_i16 : (byte == 0x77) ≡ false

ref_first : (nullable : Bool) (heap : HeapType) → ValFirst (ref_bytes (record { nullable = nullable; heap = heap }))
unfolding ref_bytes heap_bytes
ref_first false heap = record { byte = 0x64; rest = heap_bytes heap; is = refl; not_i8 = refl; not_i16 = refl }
ref_first true (Heaps.Concrete index) = record {
  byte = 0x63;
  rest = heap_bytes (Heaps.Concrete index);
  is = refl;
  not_i8 = refl;
  not_i16 = refl;
}
ref_first true Heaps.Func = record { byte = 0x70; rest = []; is = refl; not_i8 = refl; not_i16 = refl }
ref_first true Heaps.Extern = record { byte = 0x6F; rest = []; is = refl; not_i8 = refl; not_i16 = refl }
ref_first true Heaps.Any = record { byte = 0x6E; rest = []; is = refl; not_i8 = refl; not_i16 = refl }
ref_first true Heaps.Eq = record { byte = 0x6D; rest = []; is = refl; not_i8 = refl; not_i16 = refl }
ref_first true Heaps.I31 = record { byte = 0x6C; rest = []; is = refl; not_i8 = refl; not_i16 = refl }
ref_first true Heaps.Struct = record { byte = 0x6B; rest = []; is = refl; not_i8 = refl; not_i16 = refl }
ref_first true Heaps.Array = record { byte = 0x6A; rest = []; is = refl; not_i8 = refl; not_i16 = refl }
ref_first true Heaps.Exn = record { byte = 0x69; rest = []; is = refl; not_i8 = refl; not_i16 = refl }
ref_first true Heaps.None = record { byte = 0x71; rest = []; is = refl; not_i8 = refl; not_i16 = refl }
ref_first true Heaps.NoExtern = record { byte = 0x72; rest = []; is = refl; not_i8 = refl; not_i16 = refl }
ref_first true Heaps.NoFunc = record { byte = 0x73; rest = []; is = refl; not_i8 = refl; not_i16 = refl }
ref_first true Heaps.NoExn = record { byte = 0x74; rest = []; is = refl; not_i8 = refl; not_i16 = refl }

val_first : (ty : ValType) → ValFirst (val_bytes ty)
unfolding val_bytes
val_first Values.I32 = record { byte = 0x7F; rest = []; is = refl; not_i8 = refl; not_i16 = refl }
val_first Values.I64 = record { byte = 0x7E; rest = []; is = refl; not_i8 = refl; not_i16 = refl }
val_first Values.F32 = record { byte = 0x7D; rest = []; is = refl; not_i8 = refl; not_i16 = refl }
val_first Values.F64 = record { byte = 0x7C; rest = []; is = refl; not_i8 = refl; not_i16 = refl }
val_first Values.V128 = record { byte = 0x7B; rest = []; is = refl; not_i8 = refl; not_i16 = refl }
val_first (Values.Ref ty) = ref_first ty.nullable ty.heap

-- a storage type, by its first byte
abbrev storage_by : (byte : ℕ) → Place → Outcome StorageType
storage_by byte p = cond (byte == 0x78) (Ok (Storages.I8, advanced 1 p))
    (cond (byte == 0x77) (Ok (Storages.I16, advanced 1 p)) (value_storage_at p))

storage_from : (byte : ℕ) (ty : ValType) (features : ℕ) (bytes : List ℕ) → (byte == 0x78) ≡ false → (byte == 0x77) ≡ false
    → Reads value_storage_at features (Storages.Val ty) bytes → Reads (storage_by byte) features (Storages.Val ty) bytes
storage_from byte ty features bytes i8 i16 r = record { at = λ offset later. rw (i8, i16) (r.at offset later) }

reads_storage : (storage : StorageType) (features : ℕ) → StorageFits storage
    → Reads storage_type_at features storage (storage_bytes storage)
unfolding storage_type_at storage_bytes
reads_storage Storages.I8 features h = record { at = λ offset later. refl }
reads_storage Storages.I16 features h = record { at = λ offset later. refl }
reads_storage (Storages.Val ty) features h =
    let first = val_first ty in
    let value = reads_as val_type_at (λ x. Storages.Val x) features ty (val_bytes ty) (reads_val ty features h) in
    reads_peeked storage_by features first.byte (Storages.Val ty) first.rest (val_bytes ty) first.is
    (storage_from first.byte ty features (val_bytes ty) first.not_i8 first.not_i16 value)

reads_mutability : (mutable : Bool) (features : ℕ) → Reads mutability_at features mutable (flag mutable 1 ∷ [])
unfolding in_table
reads_mutability true features = record { at = λ offset later. refl }
reads_mutability false features = record { at = λ offset later. refl }

reads_field : (field : FieldType) (features : ℕ) → StorageFits field.storage → Reads field_type_at features field (field_bytes field)
unfolding field_type_at field_bytes
reads_field field features h =
    reads_then storage_type_at
    (λ storage p. mutability_at p >>= λ mutable. Ok (record { storage = storage; mutable = mutable.0 }, mutable.1))
    features field.storage field (storage_bytes field.storage) (flag field.mutable 1 ∷ []) (reads_storage field.storage features h)
    (reads_as mutability_at (λ mutable. record { storage = field.storage; mutable = mutable }) features field.mutable
    (flag field.mutable 1 ∷ []) (reads_mutability field.mutable features))

-- ---- composite types

reads_vals : (xs : List ValType) (features : ℕ) → ListFits list_bound val_bytes ValFits xs
    → Reads (list_at val_type_at) features xs (content_bytes val_bytes xs)
reads_vals xs features h = reads_plain_list val_type_at val_bytes ValFits features list_bound (λ x such. reads_val x features such) xs h

reads_func : (ty : FuncType) (features : ℕ) → FuncFits ty → Reads func_type_at features (function_parts ty) (func_bytes ty)
unfolding func_type_at func_bytes
reads_func ty features h =
    reads_then (list_at val_type_at)
    (λ params p. list_at val_type_at p >>= λ results. Ok (record { params = params; results = results.0 }, results.1))
    features ty.params (function_parts ty) (content_bytes val_bytes ty.params) (content_bytes val_bytes ty.results)
    (reads_vals ty.params features h.params)
    (reads_as (list_at val_type_at) (λ results. record { params = ty.params; results = results }) features ty.results
    (content_bytes val_bytes ty.results) (reads_vals ty.results features h.results))

reads_fields : (xs : List FieldType) (features : ℕ) → ListFits list_bound field_bytes (λ field. StorageFits field.storage) xs
    → Reads (list_at field_type_at) features xs (content_bytes field_bytes xs)
reads_fields xs features h =
    reads_plain_list field_type_at field_bytes (λ field. StorageFits field.storage) features list_bound
    (λ x such. reads_field x features such) xs h

reads_composite : (ty : CompositeType) (features : ℕ) → CompositeFits ty
    → Reads composite_type_at features (composite_parts ty) (composite_bytes ty)
unfolding composite_type_at composite_bytes
reads_composite (Composites.Func function) features h = record {
  at = after_byte functions_at features 0x60 (functions (function_parts function)) (func_bytes function)
      (reads_as func_type_at functions features (function_parts function) (func_bytes function) (reads_func function features h));
}
reads_composite (Composites.Array element) features h = record {
  at = after_byte arrays_at features 0x5E (arrays element) (field_bytes element)
      (reads_as field_type_at arrays features element (field_bytes element) (reads_field element features h));
}
reads_composite (Composites.Struct fields) features h = record {
  at = after_byte structures_at features 0x5F (structures fields) (content_bytes field_bytes fields)
      (reads_as (list_at field_type_at) structures features fields (content_bytes field_bytes fields) (reads_fields fields features h));
}

-- ---- subtypes

-- the list of the supertypes
abbrev supertypes_bytes : Option ℕ → List ℕ
supertypes_bytes None = 0 ∷ []
supertypes_bytes (Some index) = 1 ∷ unsigned_bytes index

reads_supertypes : (supertype : Option ℕ) (features : ℕ) → IsBelow (2 ^ 32) supertype
    → Reads supertypes_at features supertype (supertypes_bytes supertype)
unfolding supertypes_at septets_of
reads_supertypes None features h =
    let none = reads_u32 0 features (omega arith) in
    record { at = λ offset later. rw (none.at offset later) refl }
reads_supertypes (Some index) features h =
    let one = reads_u32 1 features (omega arith) in
    let more = reads_as (unsigned_at VarU32) (λ n. Some n) features index (unsigned_bytes index) (reads_u32 index features h) in
    record {
      at = λ offset later.
          rw (one.at offset (unsigned_bytes index ++ later))
          (after_byte one_supertype_at features 1 (Some index) (unsigned_bytes index) more offset later);
    }

reads_extending : (final : Bool) (supertype : Option ℕ) (ty : CompositeType) (features : ℕ) → IsBelow (2 ^ 32) supertype
    → CompositeFits ty
    → Reads (extending_at final) features (record { final = final; supertype = supertype; composite = composite_parts ty })
    (supertypes_bytes supertype ++ composite_bytes ty)
unfolding extending_at
reads_extending final supertype ty features h fits =
    reads_then supertypes_at
    (λ one p. composite_type_at p >>= λ composite.
    Ok (record { final = final; supertype = one; composite = composite.0 }, composite.1))
    features supertype (record { final = final; supertype = supertype; composite = composite_parts ty }) (supertypes_bytes supertype)
    (composite_bytes ty) (reads_supertypes supertype features h)
    (reads_as composite_type_at (λ composite. record { final = final; supertype = supertype; composite = composite }) features
    (composite_parts ty) (composite_bytes ty) (reads_composite ty features fits))

reads_plain : (ty : CompositeType) (features : ℕ) → CompositeFits ty
    → Reads plain_subtype_at features (record { final = true; supertype = None; composite = composite_parts ty }) (composite_bytes ty)
reads_plain ty features h =
    reads_as composite_type_at (λ composite. record { final = true; supertype = None; composite = composite }) features
    (composite_parts ty) (composite_bytes ty) (reads_composite ty features h)

subtype_by : (final : Bool) (supertype : Option ℕ) (ty : CompositeType) (features : ℕ) → IsBelow (2 ^ 32) supertype → CompositeFits ty
    → Reads subtype_at features (record { final = final; supertype = supertype; composite = composite_parts ty })
    (subtype_head final supertype ++ composite_bytes ty)
unfolding subtype_at composite_bytes
subtype_by true None (Composites.Func function) features h fits =
    record { at = (reads_plain (Composites.Func function) features fits).at }
subtype_by true None (Composites.Array element) features h fits =
    record { at = (reads_plain (Composites.Array element) features fits).at }
subtype_by true None (Composites.Struct fields) features h fits =
    record { at = (reads_plain (Composites.Struct fields) features fits).at }
subtype_by false None ty features h fits = record {
  at = after_byte (extending_at false) features 0x50 (record { final = false; supertype = None; composite = composite_parts ty })
      (supertypes_bytes None ++ composite_bytes ty) (reads_extending false None ty features h fits);
}
subtype_by false (Some index) ty features h fits = record {
  at = after_byte (extending_at false) features 0x50 (record { final = false; supertype = Some index; composite = composite_parts ty })
      (supertypes_bytes (Some index) ++ composite_bytes ty) (reads_extending false (Some index) ty features h fits);
}
subtype_by true (Some index) ty features h fits = record {
  at = after_byte (extending_at true) features 0x4F (record { final = true; supertype = Some index; composite = composite_parts ty })
      (supertypes_bytes (Some index) ++ composite_bytes ty) (reads_extending true (Some index) ty features h fits);
}

reads_subtype : (ty : SubType) (features : ℕ) → SubtypeFits ty → Reads subtype_at features (subtype_parts ty) (subtype_bytes ty)
unfolding subtype_bytes
reads_subtype ty features h = subtype_by ty.is_final ty.supertype ty.composite features h.supertype h.composite

-- ---- groups

-- the first byte of a subtype, which isn't that of an explicit group
record SubtypeFirst (bytes : List ℕ) : Type 0 where
  byte : ℕ
  rest : List ℕ
  is : bytes ≡ byte ∷ rest
  apart : (byte == 0x4E) ≡ false

subtype_first : (final : Bool) (supertype : Option ℕ) (ty : CompositeType)
    → SubtypeFirst (subtype_head final supertype ++ composite_bytes ty)
unfolding composite_bytes
subtype_first true None (Composites.Func function) = record { byte = 0x60; rest = func_bytes function; is = refl; apart = refl }
subtype_first true None (Composites.Array element) = record { byte = 0x5E; rest = field_bytes element; is = refl; apart = refl }
subtype_first true None (Composites.Struct fields) =
    record { byte = 0x5F; rest = content_bytes field_bytes fields; is = refl; apart = refl }
subtype_first false None ty = record { byte = 0x50; rest = supertypes_bytes None ++ composite_bytes ty; is = refl; apart = refl }
subtype_first false (Some index) ty =
    record { byte = 0x50; rest = supertypes_bytes (Some index) ++ composite_bytes ty; is = refl; apart = refl }
subtype_first true (Some index) ty =
    record { byte = 0x4F; rest = supertypes_bytes (Some index) ++ composite_bytes ty; is = refl; apart = refl }

-- a group, by its first byte
abbrev group_by : (byte : ℕ) → Place → Outcome RecGroupParts
group_by byte p = cond (byte == 0x4E) (whole_group_at (advanced 1 p)) (single_group_at p)

group_from : (byte : ℕ) (parts : RecGroupParts) (features : ℕ) (bytes : List ℕ) → (byte == 0x4E) ≡ false
    → Reads single_group_at features parts bytes → Reads (group_by byte) features parts bytes
group_from byte parts features bytes apart r = record { at = λ offset later. rw apart (r.at offset later) }

single_by : (ty : SubType) (features : ℕ) → SubtypeFits ty
    → Reads rec_group_at features (record { explicit = false; types = subtype_parts ty ∷ [] }) (subtype_bytes ty ++ [])
unfolding rec_group_at subtype_bytes
single_by ty features h =
    let first = subtype_first ty.is_final ty.supertype ty.composite in
    let one = reads_then subtype_at (λ one p. Ok (record { explicit = false; types = one ∷ [] }, p)) features (subtype_parts ty)
    (record { explicit = false; types = subtype_parts ty ∷ [] }) (subtype_bytes ty) [] (reads_subtype ty features h)
    (reads_nothing features (record { explicit = false; types = subtype_parts ty ∷ [] })) in
    reads_peeked group_by features first.byte (record { explicit = false; types = subtype_parts ty ∷ [] }) (first.rest ++ [])
    (subtype_bytes ty ++ []) (ap (λ (xs : List ℕ). xs ++ []) first.is)
    (group_from first.byte (record { explicit = false; types = subtype_parts ty ∷ [] }) features (subtype_bytes ty ++ []) first.apart
    one)

whole_by : (types : List SubType) (features : ℕ) → ListFits (2 ^ 32 - 1) subtype_bytes SubtypeFits types
    → Reads rec_group_at features (record { explicit = true; types = map subtype_parts types }) (0x4E ∷ content_bytes subtype_bytes types)
unfolding rec_group_at
whole_by types features h = record {
  at = after_byte whole_group_at features 0x4E (record { explicit = true; types = map subtype_parts types })
      (content_bytes subtype_bytes types)
      (reads_as (list_at subtype_at) (λ read. record { explicit = true; types = read }) features (map subtype_parts types)
      (content_bytes subtype_bytes types)
      (reads_list subtype_parts subtype_at subtype_bytes SubtypeFits features (2 ^ 32 - 1) (λ x such. reads_subtype x features such)
      types h));
}

group_of : (explicit : Bool) (types : List SubType) (features : ℕ) → is_counted explicit (length types) ≡ true
    → ListFits (2 ^ 32 - 1) subtype_bytes SubtypeFits types
    → Reads rec_group_at features (record { explicit = explicit; types = map subtype_parts types })
    (cond explicit (0x4E ∷ content_bytes subtype_bytes types) (items_bytes subtype_bytes types))
group_of true types features e h = whole_by types features h
group_of false [] features e h = cc
group_of false (ty ∷ []) features e h = single_by ty features (All-head SubtypeFits ty [] h.each)
group_of false (ty ∷ other ∷ types) features e h =
    let one : length (ty ∷ other ∷ types) ≡ 1 = eqb-true (length (ty ∷ other ∷ types)) 1 e in absurd (omega (arith, one))

-- ---- as encodings

pub storage_encodes : (storage : StorageType) (features : ℕ) → StorageFits storage
    → Encodes (ReadsAs (λ (x : StorageType). x) storage_type_at) features (λ (offset : ℕ). storage) (storage_bytes storage)
storage_encodes storage features h =
    encodes_so (λ x. x) storage_type_at features storage (storage_bytes storage) (reads_storage storage features h)

pub field_encodes : (field : FieldType) (features : ℕ) → StorageFits field.storage
    → Encodes (ReadsAs (λ (x : FieldType). x) field_type_at) features (λ (offset : ℕ). field) (field_bytes field)
field_encodes field features h = encodes_so (λ x. x) field_type_at features field (field_bytes field) (reads_field field features h)

pub func_encodes : (ty : FuncType) (features : ℕ) → FuncFits ty
    → Encodes (ReadsAs function_parts func_type_at) features (λ (offset : ℕ). ty) (func_bytes ty)
func_encodes ty features h = encodes_so function_parts func_type_at features ty (func_bytes ty) (reads_func ty features h)

pub composite_encodes : (ty : CompositeType) (features : ℕ) → CompositeFits ty
    → Encodes (ReadsAs composite_parts composite_type_at) features (λ (offset : ℕ). ty) (composite_bytes ty)
composite_encodes ty features h =
    encodes_so composite_parts composite_type_at features ty (composite_bytes ty) (reads_composite ty features h)

pub subtype_encodes : (ty : SubType) (features : ℕ) → SubtypeFits ty
    → Encodes (ReadsAs subtype_parts subtype_at) features (λ (offset : ℕ). ty) (subtype_bytes ty)
subtype_encodes ty features h = encodes_so subtype_parts subtype_at features ty (subtype_bytes ty) (reads_subtype ty features h)

pub group_encodes : (group : RecGroup) (features : ℕ) → GroupFits group
    → Encodes (ReadsAs rec_group_parts rec_group_at) features (λ (offset : ℕ). group) (group_bytes group)
unfolding group_bytes
group_encodes group features h =
    encodes_so rec_group_parts rec_group_at features group (group_bytes group)
    (group_of group.explicit group.types features h.count h.types)
