-- The items of a section as a list, of which each call of `next` returns the first.
use Rattle.wasm_examples.proofs.Common.{◌≡◌, ℕ, zero, suc, Bool, true, false, List, [], ◌∷◌, Some, None, Result, Ok, Err, refl, arith}
use Rattle.wasm_examples.proofs.Common.{if◌then◌else◌, lt-ltb, FaultAt, fault_at, ReadsAs, Outcome, Items, NextItem, Place, place, Error}
use Rattle.wasm_examples.proofs.Common.{items_at}

-- what was returned: an item, or the fault of the error
abbrev pub seen : {T Y : Type 0} → (T → Y) → Result T Error → Result Y FaultAt
seen view (Ok x) = Ok (view x)
seen view (Err e) = Err (fault_at e)

-- those that remain
abbrev pub left_of : {Y : Type 0} → (Place → Outcome Y) → Items → List (Result Y FaultAt)
left_of read it = if it.ended then [] else items_at read it.left (place it.reader)

module _ {T Y : Type 0} (view : T → Y) (read : Place → Outcome Y) {s t : Items} where
  by_state : (r : Result T Error) (e : Bool) (n : ℕ) → s.ended ≡ e → s.left ≡ n → NextItem (ReadsAs view read) s (Some r) t
      → left_of read s ≡ seen view r ∷ left_of read t
  by_state r true n e k next = let none = (next.over e).0 in cc
  by_state (Ok x) false zero e k next = absurd (next.last e k)
  by_state (Err x) false zero e k next = let l = next.last e k in rw (e, k, lt-ltb _ _ l.0, l.1, l.2) refl
  by_state (Ok x) false (suc n) e k next =
      let i = next.item e (omega (arith, k)) in
      let m : t.left ≡ n = omega (arith, k, i.1) in
      rw (e, k, i.0, i.2, m) refl
  by_state (Err x) false (suc n) e k next = let i = next.item e (omega (arith, k)) in rw (e, k, i.0, i.2) refl

  pub item_came : {r : Result T Error} → NextItem (ReadsAs view read) s (Some r) t → left_of read s ≡ seen view r ∷ left_of read t
  item_came {r} next = by_state r s.ended s.left refl refl next

  over_by : (e : Bool) (n : ℕ) → s.ended ≡ e → s.left ≡ n → NextItem (ReadsAs view read) s None t → left_of read s ≡ []
  over_by true n e k next = rw e refl
  over_by false zero e k next = let l = next.last e k in rw (e, k, l.0) refl
  over_by false (suc n) e k next = absurd (next.item e (omega (arith, k)))

  pub items_over : NextItem (ReadsAs view read) s None t → left_of read s ≡ []
  items_over next = over_by s.ended s.left refl refl next
