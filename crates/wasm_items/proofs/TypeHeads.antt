-- Beginnings of groups of types and of subtypes.
use Rattle.std.proofs.Common.{◌≡◌, ◌∙◌, ℕ, Bool, true, false, ◌==◌, Option, None, Result, Ok, Err, refl, sym, ap, if◌then◌else◌}
use Rattle.wasm_base.specs.FaultAt.{FaultAt}
use Rattle.wasm_base.specs.Name.{byte_at, peeked_byte_at}
use Rattle.wasm_base.specs.Number.{unsigned_at}
use Rattle.wasm_base.specs.Outcome.{Outcome, ◌>>=◌}
use Rattle.wasm_base.specs.Owned.{in_turn, list_at}
use Rattle.wasm_base.specs.Window.{Place, advanced}
use Rattle.wasm_base.specs.declared.fault.NumberKind.TheVariants.{VarU32}
use Rattle.wasm_items.specs.RecGroups.{CompositeParts, SubtypeParts, composite_type_at, extending_at, func_type_at, functions_at}
use Rattle.wasm_items.specs.RecGroups.{plain_subtype_at, rec_group_at, structures_at, subtype_at, supertypes_at}
use Rattle.wasm_items.specs.Values.{val_type_at}
use Rattle.wasm_items.specs.TypeHeads.{composite_head_at, counted_composite_at, extending_head_at, group_head_at, plain_head_at}
use Rattle.wasm_items.specs.TypeHeads.{subtype_head_at}
use Rattle.wasm_items.specs.declared.type_heads.CompositeKind.TheVariants.{Func, Struct}
use Rattle.wasm_items.specs.TypeLaws.{GroupsHaveHeads, SubtypesHaveHeads, composite_after, subtype_after}

-- a reading, and the same in two steps
same_after : {A B C : Type 0} (o : Result A FaultAt) (f : A → Result C FaultAt) (g : A → Result B FaultAt) (k : B → Result C FaultAt)
    → ((x : A) → f x ≡ (g x >>= k)) → (o >>= f) ≡ ((o >>= g) >>= k)
same_after (Ok x) f g k same = same x
same_after (Err e) f g k same = refl

-- both in two steps
two_after : {A B C D : Type 0} (o : Result A FaultAt) (f : A → Result B FaultAt) (h : B → Result D FaultAt) (g : A → Result C FaultAt)
    (k : C → Result D FaultAt) → ((x : A) → (f x >>= h) ≡ (g x >>= k)) → ((o >>= f) >>= h) ≡ ((o >>= g) >>= k)
two_after (Ok x) f h g k same = same x
two_after (Err e) f h g k same = refl

-- one of them in three
three_after : {A B C D E : Type 0} (o : Result A FaultAt) (f : A → Result B FaultAt) (h : B → Result D FaultAt)
    (w : D → Result E FaultAt) (g : A → Result C FaultAt) (k : C → Result E FaultAt)
    → ((x : A) → ((f x >>= h) >>= w) ≡ (g x >>= k)) → (((o >>= f) >>= h) >>= w) ≡ ((o >>= g) >>= k)
three_after (Ok x) f h w g k same = same x
three_after (Err e) f h w g k same = refl

-- the same by a test
by_test : {B C : Type 0} (b : Bool) (left right : Result C FaultAt) (there elsewhere : Result B FaultAt) (k : B → Result C FaultAt)
    → left ≡ (there >>= k) → right ≡ (elsewhere >>= k) → (if b then left else right) ≡ ((if b then there else elsewhere) >>= k)
by_test true left right there elsewhere k same other = same
by_test false left right there elsewhere k same other = other

-- the same where what is read by a test is read at a place
by_row : {B C : Type 0} (b : Bool) (left right : Place → Result C FaultAt) (p : Place) (there elsewhere : Result B FaultAt)
    (k : B → Result C FaultAt) → left p ≡ (there >>= k) → right p ≡ (elsewhere >>= k)
    → (if b then left else right) p ≡ ((if b then there else elsewhere) >>= k)
by_row true left right p there elsewhere k same other = same
by_row false left right p there elsewhere k same other = other

pub groups : GroupsHaveHeads
unfolding rec_group_at group_head_at
groups p = same_after (peeked_byte_at p) _ _ _ (λ first. by_test (first.0 == 0x4E) _ _ _ _ _
    (two_after (unsigned_at VarU32 (advanced 1 p)) _ _ _ _ (λ count. refl))
    (same_after (subtype_at p) _ _ _ (λ one. refl)))

function : (p : Place) → functions_at p ≡ (counted_composite_at Func p >>= λ head. composite_after head.0.kind head.0.count head.1)
unfolding func_type_at
function p = three_after (unsigned_at VarU32 p) _ _ _ _ _ (λ count.
    sym (same_after (in_turn val_type_at count.0 count.1) _ _ _ (λ params.
    same_after (list_at val_type_at params.1) _ _ _ (λ results. refl))))

structure : (p : Place) → structures_at p ≡ (counted_composite_at Struct p >>= λ head. composite_after head.0.kind head.0.count head.1)
structure p = two_after (unsigned_at VarU32 p) _ _ _ _ (λ count. refl)

composites : (p : Place) → composite_type_at p ≡ (composite_head_at p >>= λ head. composite_after head.0.kind head.0.count head.1)
unfolding composite_type_at composite_head_at
composites p = same_after (byte_at p) _ _ _ (λ first. by_row (first.0 == 0x60) _ _ first.1 _ _ _ (function first.1)
    (by_row (first.0 == 0x5F) _ _ first.1 _ _ _ (structure first.1) (by_row (first.0 == 0x5E) _ _ first.1 _ _ _ refl refl)))

abbrev as_subtype : Bool → Option ℕ → CompositeParts × Place → Outcome SubtypeParts
as_subtype final supertype c = Ok (record { final = final; supertype = supertype; composite = c.0 }, c.1)

extending : (final : Bool) (p : Place) → extending_at final p ≡ (extending_head_at final p >>= λ head. subtype_after head.0 head.1)
unfolding extending_at extending_head_at
extending final p = same_after (supertypes_at p) _ _ _ (λ supertype.
    ap (λ (o : Outcome CompositeParts). o >>= as_subtype final supertype.0) (composites supertype.1)
    ∙ two_after (composite_head_at supertype.1) _ _ _ _ (λ head. refl))

plain : (p : Place) → plain_subtype_at p ≡ (plain_head_at p >>= λ head. subtype_after head.0 head.1)
plain p = ap (λ (o : Outcome CompositeParts). o >>= as_subtype true None) (composites p)
    ∙ two_after (composite_head_at p) _ _ _ _ (λ head. refl)

pub subtypes : SubtypesHaveHeads
unfolding subtype_at subtype_head_at
subtypes p = same_after (peeked_byte_at p) _ _ _ (λ first. by_test (first.0 == 0x50) _ _ _ _ _ (extending false (advanced 1 p))
    (by_test (first.0 == 0x4F) _ _ _ _ _ (extending true (advanced 1 p)) (plain p)))
