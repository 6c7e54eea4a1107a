-- Comparisons that decide whether two values are the same.
use Rattle.std.proofs.Common.{◌≡◌, Bool, true, false, ◌&&◌, Option, List, [], ◌∷◌, nat_eq, refl, ap, subst}
use Rattle.std.specs.Prelude.{Some, None}
use Rattle.std.proofs.lemmas.Bool.{eqb-true, eq-eqb}
use Rattle.std.specs.Option.{option_eq}
use Rattle.std.specs.contracts.prelude.BoolPartialEq.TheImpl as Truth
use Rattle.wasm_base.specs.Comparing.{DecidesSame}
use mathlib.Core.Logic.{inl, inr}
use denote.Struct.Field.{Field}
use denote.Struct.Values.{Values}
use denote.Enum.Bare.{Bare, sameb, same_true, true_same}
use denote.Enum.Compared.{Each, by}
use denote.Enum.Declared.{Choice, Declared, Record, values_one}

-- a comparison that is true of a value and itself, and of no others
pub record Decides {A : Type 0} (compare : A → A → Bool) : Type 0 where
  pub same : (one other : A) → compare one other ≡ true → one ≡ other
  pub itself : (one : A) → compare one one ≡ true

pub back : {A : Type 0} {compare : A → A → Bool} → Decides compare → {one other : A} → one ≡ other → compare one other ≡ true
back {A = A} {compare = compare} t {one = one} is = subst (λ (x : A). compare one x ≡ true) is (t.itself one)

pub item_or_fault : {A : Type 0} {compare : A → A → Bool} → Decides compare → DecidesSame compare
item_or_fault t one other = (t.same one other, back t)

pub both_of : {s t : Bool} → (s && t) ≡ true → (s ≡ true) × (t ≡ true)
both_of {s = true} {t = t} h = (refl, h)
both_of {s = false} {t = t} h = cc

pub number : Decides nat_eq
number = record { same = eqb-true; itself = λ n. eq-eqb n n refl }

truth_same : (one other : Bool) → (Truth.ghosts).eq one other ≡ true → one ≡ other
truth_same true true h = refl
truth_same false false h = refl
truth_same one other h = cc

truth_itself : (one : Bool) → (Truth.ghosts).eq one one ≡ true
truth_itself true = refl
truth_itself false = refl

pub truth : Decides (Truth.ghosts).eq
truth = record { same = truth_same; itself = truth_itself }

option_same : {A : Type 0} {compare : A → A → Bool} → Decides compare → (one other : Option A) → option_eq compare one other ≡ true → one
    ≡ other
option_same t None None h = refl
option_same t (Some one) (Some other) h = ap Some (t.same one other h)
option_same t one other h = cc

option_itself : {A : Type 0} {compare : A → A → Bool} → Decides compare → (one : Option A) → option_eq compare one one ≡ true
option_itself t None = refl
option_itself t (Some one) = t.itself one

pub option : {A : Type 0} {compare : A → A → Bool} → Decides compare → Decides (option_eq compare)
option t = record { same = option_same t; itself = option_itself t }

-- an enum whose variants have no fields
pub bare : (D : Declared) → Bare D.parts → Decides (sameb D)
bare D none = record { same = same_true D none; itself = λ one. true_same D one one refl }

-- a comparison of the fields of a variant
pub record Compared (Fs : List Field) : Type 1 where
  pub compare : Values Fs → Values Fs → Bool
  pub says : Decides compare

-- one for each variant that has fields
abbrev pub ComparedEach : List (List Field) → Type 1
ComparedEach [] = Unit
ComparedEach ([] ∷ Fss) = ComparedEach Fss
ComparedEach ((F ∷ Fs) ∷ Fss) = Compared (F ∷ Fs) × ComparedEach Fss

-- one for each variant: two values of one with no fields are equal
abbrev pub compares : (Fss : List (List Field)) → ComparedEach Fss → Each Bool Fss
compares [] each = tt
compares ([] ∷ Fss) each = (λ _ _. true, compares Fss each)
compares ((F ∷ Fs) ∷ Fss) each = (each.0.compare, compares Fss each.1)

choices_same : (Fss : List (List Field)) (each : ComparedEach Fss) (c d : Choice Fss) → by false false Fss (compares Fss each) c d ≡ true
    → c ≡ d
choices_same [] each c d h = absurd c
choices_same ([] ∷ Fss) each (inl x) (inl y) h = refl
choices_same ([] ∷ Fss) each (inr x) (inr y) h = ap inr (choices_same Fss each x y h)
choices_same ([] ∷ Fss) each (inl x) (inr y) h = cc
choices_same ([] ∷ Fss) each (inr x) (inl y) h = cc
choices_same ((F ∷ Fs) ∷ Fss) each (inl x) (inl y) h = ap inl (each.0.says.same x y h)
choices_same ((F ∷ Fs) ∷ Fss) each (inr x) (inr y) h = ap inr (choices_same Fss each.1 x y h)
choices_same ((F ∷ Fs) ∷ Fss) each (inl x) (inr y) h = cc
choices_same ((F ∷ Fs) ∷ Fss) each (inr x) (inl y) h = cc

choices_itself : (Fss : List (List Field)) (each : ComparedEach Fss) (c : Choice Fss) → by false false Fss (compares Fss each) c c ≡ true
choices_itself [] each c = absurd c
choices_itself ([] ∷ Fss) each (inl x) = refl
choices_itself ([] ∷ Fss) each (inr x) = choices_itself Fss each x
choices_itself ((F ∷ Fs) ∷ Fss) each (inl x) = each.0.says.itself x
choices_itself ((F ∷ Fs) ∷ Fss) each (inr x) = choices_itself Fss each.1 x

-- the one field of a variant
abbrev pub field : (F : Field) {compare : F.Value → F.Value → Bool} → Decides compare → Compared (F ∷ [])
field F {compare = compare} t = record {
  compare = λ one other. compare one.0 other.0;
  says = record { same = λ one other h i. (t.same one.0 other.0 h i, tt); itself = λ one. t.itself one.0 };
}

-- an enum of which some variants have fields
pub variants : (N : Record) (each : ComparedEach N.parts) → Decides
    (λ one other. by false false N.parts (compares N.parts each) (N.as_values one) (N.as_values other))
variants N each = record {
  same = λ one other h. values_one N one other (choices_same N.parts each (N.as_values one) (N.as_values other) h);
  itself = λ one. choices_itself N.parts each (N.as_values one);
}
