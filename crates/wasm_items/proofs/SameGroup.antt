-- Derived comparisons of types that own lists.
use Rattle.std.proofs.Common.{◌≡◌, Bool, true, List, [], ◌∷◌, refl}
use lib.Pointwise.{pointwise}
use Rattle.std.specs.Cmp.Derive.{both_true}
use Rattle.std.specs.List.{AllZip}
use Rattle.wasm_base.proofs.Deciding.{Decides, both_of, back, truth, number, option}
use Rattle.wasm_base.specs.Comparing.{DecidesWhether}
use Rattle.wasm_items.proofs.Same.{value, field}
use Rattle.wasm_items.specs.Same.{IsSameFunction, IsSameComposite, IsSameSubtype, IsSameGroup}
use Rattle.wasm_items.specs.contracts.types.FuncTypePartialEq.TheImpl as FuncTypeCompared
use Rattle.wasm_items.specs.contracts.types.CompositeTypePartialEq.TheImpl as CompositeTypeCompared
use Rattle.wasm_items.specs.contracts.types.SubTypePartialEq.TheImpl as SubTypeCompared
use Rattle.wasm_items.specs.contracts.types.RecGroupPartialEq.TheImpl as RecGroupCompared
use Rattle.wasm_items.specs.declared.types.CompositeType.{CompositeType}
use Rattle.wasm_items.specs.declared.types.CompositeType.TheVariants.{Func, Array, Struct}
use Rattle.wasm_items.specs.declared.types.FuncType.{FuncType}
use Rattle.wasm_items.specs.declared.types.RecGroup.{RecGroup}
use Rattle.wasm_items.specs.declared.types.SubType.{SubType}

list_same : {A : Type 0} {compare : A → A → Bool} → Decides compare → (xs ys : List A) → pointwise compare xs ys ≡ true → xs ≡ ys
list_same t [] [] h = refl
list_same t (x ∷ xs) (y ∷ ys) h =
    let p = both_of h in
    λ i. t.same x y p.0 i ∷ list_same t xs ys p.1 i
list_same t xs ys h = cc

list_itself : {A : Type 0} {compare : A → A → Bool} → Decides compare → (xs : List A) → pointwise compare xs xs ≡ true
list_itself t [] = refl
list_itself t (x ∷ xs) = both_true (t.itself x) (list_itself t xs)

list : {A : Type 0} {compare : A → A → Bool} → Decides compare → Decides (pointwise compare)
list t = record { same = list_same t; itself = list_itself t }

-- lists whose items are compared one by one
each_so : {A : Type 0} {same : A → A → Type 0} {compare : A → A → Bool} → DecidesWhether same compare → (xs ys : List A)
    → pointwise compare xs ys ≡ true → AllZip same xs ys
each_so t [] [] h = tt
each_so t (x ∷ xs) (y ∷ ys) h =
    let p = both_of h in
    ((t x y).0 p.0, each_so t xs ys p.1)
each_so t xs ys h = cc

each_back : {A : Type 0} {same : A → A → Type 0} {compare : A → A → Bool} → DecidesWhether same compare → (xs ys : List A)
    → AllZip same xs ys → pointwise compare xs ys ≡ true
each_back t [] [] h = refl
each_back t (x ∷ xs) (y ∷ ys) h = both_true ((t x y).1 h.0) (each_back t xs ys h.1)
each_back t xs ys h = absurd h

function_same : (one other : FuncType) → (FuncTypeCompared.ghosts).eq one other ≡ true → IsSameFunction one other
function_same one other h =
    let p = both_of h in
    record {
      params = list_same value one.params other.params p.0;
      results = list_same value one.results other.results p.1;
    }

function_back : (one other : FuncType) → IsSameFunction one other → (FuncTypeCompared.ghosts).eq one other ≡ true
function_back one other is = both_true (back (list value) is.params) (back (list value) is.results)

pub function : DecidesWhether IsSameFunction (FuncTypeCompared.ghosts).eq
function one other = (function_same one other, function_back one other)

composite_same : (one other : CompositeType) → (CompositeTypeCompared.ghosts).eq one other ≡ true → IsSameComposite one other
composite_same (Func one) (Func other) h = function_same one other h
composite_same (Array one) (Array other) h = field.same one other h
composite_same (Struct one) (Struct other) h = list_same field one other h
composite_same one other h = cc

composite_back : (one other : CompositeType) → IsSameComposite one other → (CompositeTypeCompared.ghosts).eq one other ≡ true
composite_back (Func one) (Func other) is = function_back one other is
composite_back (Array one) (Array other) is = back field is
composite_back (Struct one) (Struct other) is = back (list field) is
composite_back one other is = absurd is

pub composite : DecidesWhether IsSameComposite (CompositeTypeCompared.ghosts).eq
composite one other = (composite_same one other, composite_back one other)

subtype_same : (one other : SubType) → (SubTypeCompared.ghosts).eq one other ≡ true → IsSameSubtype one other
subtype_same one other h =
    let p = both_of h in
    let q = both_of p.1 in
    record {
      final = truth.same one.is_final other.is_final p.0;
      supertype = (option number).same one.supertype other.supertype q.0;
      composite = composite_same one.composite other.composite q.1;
    }

subtype_back : (one other : SubType) → IsSameSubtype one other → (SubTypeCompared.ghosts).eq one other ≡ true
subtype_back one other is =
    both_true (back truth is.final) (both_true (back (option number) is.supertype)
    (composite_back one.composite other.composite is.composite))

pub subtype : DecidesWhether IsSameSubtype (SubTypeCompared.ghosts).eq
subtype one other = (subtype_same one other, subtype_back one other)

group_same : (one other : RecGroup) → (RecGroupCompared.ghosts).eq one other ≡ true → IsSameGroup one other
group_same one other h =
    let p = both_of h in
    record {
      explicit = truth.same one.explicit other.explicit p.0;
      types = each_so subtype one.types other.types p.1;
    }

group_back : (one other : RecGroup) → IsSameGroup one other → (RecGroupCompared.ghosts).eq one other ≡ true
group_back one other is =
    both_true (back truth is.explicit) (each_back subtype one.types other.types is.types)

pub group : DecidesWhether IsSameGroup (RecGroupCompared.ghosts).eq
group one other = (group_same one other, group_back one other)
