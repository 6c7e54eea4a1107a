-- The bytes of value types, reference types and heap types are read as these.
use Rattle.std.proofs.Common.{◌≡◌, ℕ, ◌+◌, ◌<◌, ◌≤◌, ◌%◌, ◌/◌, ◌^◌, ◌⊎◌, inl, inr, Bool, true, false, List, [], ◌∷◌}
use Rattle.std.proofs.Common.{◌++◌, length}
use Rattle.std.proofs.Common.{arith, ap, sym, ◌∙◌, None, Ok, subst, refl, pos, nat_lt, ltb-true, ltb-false}
use Rattle.std.proofs.lemmas.Int.{ints}
use Rattle.wasm_base.specs.Item.{ReadsAs}
use Rattle.wasm_base.specs.Signed.{signed_at, FitsBits}
use Rattle.wasm_base.specs.Window.{Place}
use Rattle.wasm_base.specs.declared.fault.Lead.{Lead}
use Rattle.wasm_base.specs.declared.fault.Lead.TheVariants as Leads
use Rattle.wasm_base.specs.declared.fault.NumberKind.TheVariants.{VarS33}
use Rattle.wasm_items.specs.Values.{abstract_heap_of, heap_type_at, ref_type_in, ref_type_at, plain_type_of, val_type_at}
use Rattle.wasm_items.specs.declared.types.HeapType.{HeapType}
use Rattle.wasm_items.specs.declared.types.HeapType.TheVariants as Heaps
use Rattle.wasm_items.specs.declared.types.RefType.{RefType}
use Rattle.wasm_items.specs.declared.types.ValType.{ValType}
use Rattle.wasm_items.specs.declared.types.ValType.TheVariants as Values
use Rattle.wasm_encode.specs.Numbers.{septets_of, signed_bytes}
use Rattle.wasm_encode.specs.ReadsBack.{spot, Encodes}
use Rattle.wasm_encode.specs.Types.{HeapFits, heap_bytes, ref_bytes, val_bytes, ValFits}
use Rattle.wasm_encode.proofs.Numbers.{septets_more, septets_last}
use Rattle.wasm_encode.proofs.NumbersBack.{signed_at_spot}
use Rattle.wasm_encode.proofs.Readings.{Reads, same_spot, encodes_so}

-- ---- heap types

-- the first byte of an index
pub record First (bytes : List ℕ) : Type 0 where
  pub byte : ℕ
  pub rest : List ℕ
  pub is : bytes ≡ byte ∷ rest
  pub apart : (byte < 64) ⊎ (128 ≤ byte)

first_of : (n : ℕ) → n < 2 ^ 32 → First (signed_bytes (pos n))
first_of n h = by (nat_lt n 64) refl
  where
    by : (t : Bool) → nat_lt n 64 ≡ t → First (signed_bytes (pos n))
    by true is =
        let l : n < 64 = ltb-true n 64 is in
        record { byte = n; rest = []; is = septets_last false 64 n l; apart = inl l }
    by false is =
        let l : 64 ≤ n = ltb-false n 64 is in
        record {
          byte = n % 128 + 128;
          rest = septets_of false 64 (n / 128);
          is = septets_more false 64 n (inl refl) l (omega arith);
          apart = inr (omega arith);
        }

-- no abstract heap type has such a byte
not_abstract : (b : ℕ) → (b < 64) ⊎ (128 ≤ b) → abstract_heap_of b ≡ None
not_abstract b (inl h) = grind arith
not_abstract b (inr h) = grind arith

concrete_from : (features offset index b : ℕ) (rest : List ℕ) (q : Place) → abstract_heap_of b ≡ None
    → signed_at VarS33 (spot features offset (b ∷ rest)) ≡ Ok (pos index, q)
    → heap_type_at (spot features offset (b ∷ rest)) ≡ Ok (Heaps.Concrete index, q)
unfolding heap_type_at
concrete_from features offset index b rest q none s = rw (none, s) refl

concrete_at : (features offset index : ℕ) (later : List ℕ) → index < 2 ^ 32
    → heap_type_at (spot features offset (signed_bytes (pos index) ++ later))
    ≡ Ok (Heaps.Concrete index, spot features (offset + length (signed_bytes (pos index))) later)
concrete_at features offset index later h =
    let first = first_of index h in
    let bytes : List ℕ = signed_bytes (pos index) in
    let e : bytes ++ later ≡ first.byte ∷ (first.rest ++ later) = ap (λ (xs : List ℕ). xs ++ later) first.is in
    let fits : FitsBits 33 (pos index) = (omega (arith, ints), omega (arith, ints)) in
    let s : signed_at VarS33 (spot features offset (bytes ++ later)) ≡ Ok (pos index, spot features (offset + length bytes) later) =
    signed_at_spot VarS33 features offset (pos index) later refl fits in
    let q : Place = spot features (offset + length bytes) later in
    subst (λ (xs : List ℕ). heap_type_at (spot features offset xs) ≡ Ok (Heaps.Concrete index, q)) (sym e)
    (concrete_from features offset index first.byte (first.rest ++ later) q (not_abstract first.byte first.apart)
    (subst (λ (xs : List ℕ). signed_at VarS33 (spot features offset xs) ≡ Ok (pos index, q)) e s))

pub heap_at_spot : (features offset : ℕ) (heap : HeapType) (later : List ℕ) → HeapFits heap
    → heap_type_at (spot features offset (heap_bytes heap ++ later)) ≡ Ok (heap, spot features (offset + length (heap_bytes heap)) later)
unfolding heap_bytes heap_type_at
heap_at_spot features offset Heaps.Func later h = refl
heap_at_spot features offset Heaps.Extern later h = refl
heap_at_spot features offset Heaps.Any later h = refl
heap_at_spot features offset Heaps.Eq later h = refl
heap_at_spot features offset Heaps.I31 later h = refl
heap_at_spot features offset Heaps.Struct later h = refl
heap_at_spot features offset Heaps.Array later h = refl
heap_at_spot features offset Heaps.Exn later h = refl
heap_at_spot features offset Heaps.None later h = refl
heap_at_spot features offset Heaps.NoExtern later h = refl
heap_at_spot features offset Heaps.NoFunc later h = refl
heap_at_spot features offset Heaps.NoExn later h = refl
heap_at_spot features offset (Heaps.Concrete index) later h = concrete_at features offset index later h

pub heap_encodes : (heap : HeapType) (features : ℕ) → HeapFits heap
    → Encodes (ReadsAs (λ (x : HeapType). x) heap_type_at) features (λ (offset : ℕ). heap) (heap_bytes heap)
heap_encodes heap features h = record { read = λ offset later. heap_at_spot features offset heap later h }

-- ---- reference types

heap_after : (features offset byte : ℕ) (heap : HeapType) (later : List ℕ) → HeapFits heap
    → heap_type_at (spot features (offset + 1) (heap_bytes heap ++ later))
    ≡ Ok (heap, spot features (offset + length (byte ∷ heap_bytes heap)) later)
heap_after features offset byte heap later h = heap_at_spot features (offset + 1) heap later h
    ∙ same_spot features (offset + 1 + length (heap_bytes heap)) (offset + length (byte ∷ heap_bytes heap)) heap later (omega arith)

ref_by : (lead : Lead) (features offset : ℕ) (nullable : Bool) (heap : HeapType) (later : List ℕ) → HeapFits heap
    → ref_type_in lead (spot features offset (ref_bytes (record { nullable = nullable; heap = heap }) ++ later))
    ≡ Ok (
      record { nullable = nullable; heap = heap },
      spot features (offset + length (ref_bytes (record { nullable = nullable; heap = heap }))) later,
    )
unfolding ref_bytes heap_bytes ref_type_in
ref_by lead features offset false heap later h = rw (heap_after features offset 0x64 heap later h) refl
ref_by lead features offset true (Heaps.Concrete index) later h =
    rw (heap_after features offset 0x63 (Heaps.Concrete index) later h) refl
ref_by lead features offset true Heaps.Func later h = refl
ref_by lead features offset true Heaps.Extern later h = refl
ref_by lead features offset true Heaps.Any later h = refl
ref_by lead features offset true Heaps.Eq later h = refl
ref_by lead features offset true Heaps.I31 later h = refl
ref_by lead features offset true Heaps.Struct later h = refl
ref_by lead features offset true Heaps.Array later h = refl
ref_by lead features offset true Heaps.Exn later h = refl
ref_by lead features offset true Heaps.None later h = refl
ref_by lead features offset true Heaps.NoExtern later h = refl
ref_by lead features offset true Heaps.NoFunc later h = refl
ref_by lead features offset true Heaps.NoExn later h = refl

pub ref_at_spot : (lead : Lead) (features offset : ℕ) (ty : RefType) (later : List ℕ) → HeapFits ty.heap
    → ref_type_in lead (spot features offset (ref_bytes ty ++ later)) ≡ Ok (ty, spot features (offset + length (ref_bytes ty)) later)
ref_at_spot lead features offset ty later h = ref_by lead features offset ty.nullable ty.heap later h

-- ---- value types

-- the first byte of a reference type, which isn't that of a number type or vector type
record RefFirst (bytes : List ℕ) : Type 0 where
  byte : ℕ
  rest : List ℕ
  is : bytes ≡ byte ∷ rest
  apart : plain_type_of byte ≡ None

first_by : (nullable : Bool) (heap : HeapType) → RefFirst (ref_bytes (record { nullable = nullable; heap = heap }))
unfolding ref_bytes heap_bytes
first_by false heap = record { byte = 0x64; rest = heap_bytes heap; is = refl; apart = refl }
first_by true (Heaps.Concrete index) = record { byte = 0x63; rest = heap_bytes (Heaps.Concrete index); is = refl; apart = refl }
first_by true Heaps.Func = record { byte = 0x70; rest = []; is = refl; apart = refl }
first_by true Heaps.Extern = record { byte = 0x6F; rest = []; is = refl; apart = refl }
first_by true Heaps.Any = record { byte = 0x6E; rest = []; is = refl; apart = refl }
first_by true Heaps.Eq = record { byte = 0x6D; rest = []; is = refl; apart = refl }
first_by true Heaps.I31 = record { byte = 0x6C; rest = []; is = refl; apart = refl }
first_by true Heaps.Struct = record { byte = 0x6B; rest = []; is = refl; apart = refl }
first_by true Heaps.Array = record { byte = 0x6A; rest = []; is = refl; apart = refl }
first_by true Heaps.Exn = record { byte = 0x69; rest = []; is = refl; apart = refl }
first_by true Heaps.None = record { byte = 0x71; rest = []; is = refl; apart = refl }
first_by true Heaps.NoExtern = record { byte = 0x72; rest = []; is = refl; apart = refl }
first_by true Heaps.NoFunc = record { byte = 0x73; rest = []; is = refl; apart = refl }
first_by true Heaps.NoExn = record { byte = 0x74; rest = []; is = refl; apart = refl }

val_ref : (features offset b : ℕ) (rest : List ℕ) (ty : RefType) (q : Place) → plain_type_of b ≡ None
    → ref_type_in Leads.Value (spot features offset (b ∷ rest)) ≡ Ok (ty, q)
    → val_type_at (spot features offset (b ∷ rest)) ≡ Ok (Values.Ref ty, q)
unfolding val_type_at
val_ref features offset b rest ty q none r = rw (none, r) refl

pub val_at_spot : (features offset : ℕ) (ty : ValType) (later : List ℕ) → ValFits ty
    → val_type_at (spot features offset (val_bytes ty ++ later)) ≡ Ok (ty, spot features (offset + length (val_bytes ty)) later)
unfolding val_bytes val_type_at
val_at_spot features offset Values.I32 later h = refl
val_at_spot features offset Values.I64 later h = refl
val_at_spot features offset Values.F32 later h = refl
val_at_spot features offset Values.F64 later h = refl
val_at_spot features offset Values.V128 later h = refl
val_at_spot features offset (Values.Ref ty) later h =
    let first = first_by ty.nullable ty.heap in
    let bytes : List ℕ = ref_bytes ty in
    let q : Place = spot features (offset + length bytes) later in
    let e : bytes ++ later ≡ first.byte ∷ (first.rest ++ later) = ap (λ (xs : List ℕ). xs ++ later) first.is in
    subst (λ (xs : List ℕ). val_type_at (spot features offset xs) ≡ Ok (Values.Ref ty, q)) (sym e)
    (val_ref features offset first.byte (first.rest ++ later) ty q first.apart
    (subst (λ (xs : List ℕ). ref_type_in Leads.Value (spot features offset xs) ≡ Ok (ty, q)) e
    (ref_at_spot Leads.Value features offset ty later h)))

-- ---- as encodings

pub reads_heap : (heap : HeapType) (features : ℕ) → HeapFits heap → Reads heap_type_at features heap (heap_bytes heap)
reads_heap heap features h = record { at = λ offset later. heap_at_spot features offset heap later h }

pub reads_ref : (ty : RefType) (features : ℕ) → HeapFits ty.heap → Reads ref_type_at features ty (ref_bytes ty)
reads_ref ty features h = record { at = λ offset later. ref_at_spot Leads.Reference features offset ty later h }

pub reads_val : (ty : ValType) (features : ℕ) → ValFits ty → Reads val_type_at features ty (val_bytes ty)
reads_val ty features h = record { at = λ offset later. val_at_spot features offset ty later h }

pub ref_encodes : (ty : RefType) (features : ℕ) → HeapFits ty.heap
    → Encodes (ReadsAs (λ (x : RefType). x) ref_type_at) features (λ (offset : ℕ). ty) (ref_bytes ty)
ref_encodes ty features h = encodes_so (λ x. x) ref_type_at features ty (ref_bytes ty) (reads_ref ty features h)

pub val_encodes : (ty : ValType) (features : ℕ) → ValFits ty
    → Encodes (ReadsAs (λ (x : ValType). x) val_type_at) features (λ (offset : ℕ). ty) (val_bytes ty)
val_encodes ty features h = encodes_so (λ x. x) val_type_at features ty (val_bytes ty) (reads_val ty features h)
