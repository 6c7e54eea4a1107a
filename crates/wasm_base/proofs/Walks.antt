-- A loop over the items of a section.
use Rattle.std.proofs.Common.{Option, ◌≡◌, ℕ, zero, suc, true, false, [], ◌∷◌, length, Some, Result, Ok, Err, refl, arith}
use Rattle.std.specs.Prelude.{nat_lt}
use Rattle.std.proofs.lemmas.Bool.{lt-ltb}
use Rattle.wasm_base.specs.FaultAt.{fault_at}
use Rattle.wasm_base.specs.Outcome.{Outcome}
use Rattle.wasm_base.specs.Owned.{UnlessMemory}
use Rattle.wasm_base.specs.Section.{Items, NextItem, NextItemIn, ReadsItem, ItemsOf, WalksTo}
use Rattle.wasm_base.specs.Walks.{Walked, Gives}
use Rattle.wasm_base.specs.Window.{Place, place}
use Rattle.wasm_base.specs.declared.error.Error.{Error}

pub gives : {T : Type 0} {meaning : Place → Outcome T → Type 0} {s t : Items} {given : Option (Result T Error)} → NextItem meaning s given t
    → Gives meaning s given t
gives next = record { item = next.item; last = next.last }

pub gives_owned : {T : Type 0} {meaning : Place → Outcome T → Type 0} {s t : Items} {given : Option (Result T Error)}
    → NextItemIn meaning s given t → Gives (UnlessMemory meaning) s given t
gives_owned next = record { item = next.item; last = next.last }

module _ {T : Type 0} (meaning : Place → Outcome T → Type 0) where
  -- a call that gave an item
  pub item_came : (s t : Items) (x : T) → s.ended ≡ false → Gives meaning s (Some (Ok x)) t → ReadsItem meaning s (Some (Ok x)) t
  item_came s t x going next = by_left s.left refl
    where
      by_left : (n : ℕ) → s.left ≡ n → ReadsItem meaning s (Some (Ok x)) t
      by_left zero e = absurd (next.last going e)
      by_left (suc n) e = next.item going (omega (arith, e))

  -- the call that gave a fault
  pub fault_came : (s t : Items) (e : Error) → s.ended ≡ false → Gives meaning s (Some (Err e)) t
      → ItemsOf meaning s.left (place s.reader) (Err (fault_at e) ∷ [])
  fault_came s t e going next = by_left s.left refl
    where
      by_left : (n : ℕ) → s.left ≡ n → ItemsOf meaning n (place s.reader) (Err (fault_at e) ∷ [])
      by_left zero k =
          let last = next.last going k in
          let test : nat_lt 0 (length (place s.reader).rest) ≡ true = lt-ltb _ _ last.0 in
          rw (test, last.1) refl
      by_left (suc n) k = ((next.item going (omega (arith, k))).0, refl)

  -- The walk goes on after an item.
  pub after_item : (count : ℕ) (before : Place) (s t : Items) (x : T) → Walked meaning count before s.left (place s.reader) → s.ended
      ≡ false → Gives meaning s (Some (Ok x)) t → (t.ended ≡ false) × Walked meaning count before t.left (place t.reader)
  after_item count before s t x walked going next =
      let item = item_came s t x going next in
      let k : s.left ≡ suc t.left = omega (arith, item.1) in
      let w : Walked meaning count before (suc t.left) (place s.reader) = rw k at walked in
      (item.2, record { whole = λ end h. w.whole end (x ∷ h.0, (place t.reader, item.0, h.1)) })

  -- The walk ends at a fault.
  pub at_a_fault : (count : ℕ) (before : Place) (s t : Items) (e : Error) → Walked meaning count before s.left (place s.reader) → s.ended
      ≡ false → Gives meaning s (Some (Err e)) t → WalksTo meaning count before (Err (fault_at e) ∷ [])
  at_a_fault count before s t e walked going next = walked.whole _ ([], fault_came s t e going next)
