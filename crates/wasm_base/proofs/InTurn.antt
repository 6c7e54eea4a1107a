-- Items that are read in turn, as a loop reads them.
use Rattle.std.proofs.Common.{◌≡◌, inl, inr, ℕ, suc, ◌+◌, ◌-◌, ◌<◌, ◌≤◌, List, [], ◌∷◌, ◌++◌, Ok, Err, refl, sym, subst, arith}
use Rattle.std.proofs.Common.{append_assoc}
use Rattle.std.proofs.lemmas.List.{append-nil}
use Rattle.wasm_base.specs.FaultAt.{FaultAt}
use Rattle.wasm_base.specs.Outcome.{Outcome}
use Rattle.wasm_base.specs.Owned.{InTurn}
use Rattle.wasm_base.specs.Window.{Place}

-- what reading the rest comes to, with the items that were read before
abbrev pub with_earlier : {A : Type 0} → List A → Outcome (List A) → Outcome (List A)
with_earlier earlier (Ok x) = Ok (earlier ++ x.0, x.1)
with_earlier earlier (Err e) = Err e

-- Whatever reading the rest comes to, the whole comes to that after the items so far.
pub record SoFar {A : Type 0} (meaning : Place → Outcome A → Type 0) (count : ℕ) (before : Place) (left : ℕ) (items : List A)
    (now : Place) : Type 0 where
  pub whole : (rest : Outcome (List A)) → InTurn meaning left now rest → InTurn meaning count before (with_earlier items rest)

module _ {A : Type 0} (meaning : Place → Outcome A → Type 0) where
  pub none_so_far : (count : ℕ) (before : Place) → SoFar meaning count before count [] before
  none_so_far count before = record {
    whole = λ rest h. elim rest as
        (λ r. InTurn meaning count before r → InTurn meaning count before (with_earlier [] r)) [ Ok x ↦ λ k. k | Err e ↦ λ k. k ] h;
  }

  one_more : (count : ℕ) (before : Place) (left : ℕ) (items : List A) (now : Place) (x : A) (after : Place)
      → SoFar meaning count before (suc left) items now → meaning now (Ok (x, after))
      → SoFar meaning count before left (items ++ x ∷ []) after
  one_more count before left items now x after so_far item = record { whole = λ rest h. step rest h }
    where
      step : (rest : Outcome (List A)) → InTurn meaning left after rest → InTurn meaning count before (with_earlier (items ++ x ∷ []) rest)
      step (Ok (more, q)) h = subst (λ (xs : List A). InTurn meaning count before (Ok (xs, q))) (sym (append_assoc items (x ∷ []) more))
          (so_far.whole (Ok (x ∷ more, q)) (after, item, h))
      step (Err e) h = so_far.whole (Err e) (inr (x, after, item, h))

  -- by how many items were read

  pub more_at : (count i : ℕ) (before : Place) (items : List A) (now : Place) (x : A) (after : Place)
      → SoFar meaning count before (count - i) items now → i < count → meaning now (Ok (x, after))
      → SoFar meaning count before (count - (i + 1)) (items ++ x ∷ []) after
  more_at count i before items now x after so_far lt item =
      let k : count - i ≡ suc (count - (i + 1)) = omega arith in
      one_more count before (count - (i + 1)) items now x after (rw k at so_far) item

  pub fault_at_item : (count i : ℕ) (before : Place) (items : List A) (now : Place) (e : FaultAt)
      → SoFar meaning count before (count - i) items now → i < count → meaning now (Err e) → InTurn meaning count before (Err e)
  fault_at_item count i before items now e so_far lt fault =
      let k : count - i ≡ suc (count - (i + 1)) = omega arith in
      let s : SoFar meaning count before (suc (count - (i + 1))) items now = rw k at so_far in
      s.whole (Err e) (inl fault)

  pub done_at : (count i : ℕ) (before : Place) (items : List A) (now : Place) → SoFar meaning count before (count - i) items now → count ≤ i
      → InTurn meaning count before (Ok (items, now))
  done_at count i before items now so_far le =
      let k : count - i ≡ 0 = omega arith in
      let s : SoFar meaning count before 0 items now = rw k at so_far in
      subst (λ (xs : List A). InTurn meaning count before (Ok (xs, now))) (append-nil items) (s.whole (Ok ([], now)) (refl, refl))
