-- What an iterator over entries returns if their indices ascend.
use Rattle.std.proofs.Common.{◌≡◌, ◌⊎◌, inl, inr, ℕ, ◌<◌, false, true, IsTrue, List, [], ◌∷◌, Option, Some, None, Result}
use Rattle.std.proofs.Common.{Ok, Err, ap, arith, length, map, nat_lt, subst, sym, ◌∙◌}
use Rattle.std.proofs.lemmas.Bool.{lt-ltb}
use Rattle.std.specs.Iterator.{Yields}
use Rattle.wasm_base.proofs.OwnBytes.{same_read}
use Rattle.wasm_base.specs.Ascending.{Ascending, AscendsFrom, NextAscending, Refuses, is_above}
use Rattle.wasm_base.specs.FaultAt.{FaultAt, fault_at}
use Rattle.wasm_base.specs.Item.{ReadsAs}
use Rattle.wasm_base.specs.Outcome.{Outcome}
use Rattle.wasm_base.specs.Section.{Items, ItemsOf, NextItem, SameItem, SameItems, as_read, at_the_end, item_or_fault}
use Rattle.wasm_base.specs.Window.{Place, place}
use Rattle.wasm_base.specs.declared.error.Error.{Error}
use Rattle.wasm_base.specs.declared.fault.Fault.{Fault}
use Rattle.wasm_encode.specs.Namings.{all_given}

module _ {X Y : Type 0} (view : X → Y) (reading : Place → Outcome Y) (start : Items → ℕ) (index : X → ℕ) (of_parts : Y → ℕ) (fault : Fault)
    (known : (x : X) → index x ≡ of_parts (view x)) where
  abbrev Meaning : Place → Outcome X → Type 0
  Meaning = ReadsAs view reading

  abbrev Step : Ascending Items → Option (Result X Error) → Ascending Items → Type 0
  Step = NextAscending (NextItem Meaning) start index fault

  -- what was read at the place of an entry
  record Read (x z : X) (q r : Place) : Type 0 where
    parts : view z ≡ view x
    after : r ≡ q
    number : index z ≡ index x

  read_so : (p q r : Place) (x z : X) → Meaning p (Ok (x, q)) → Meaning p (Ok (z, r)) → Read x z q r
  read_so p q r x z one other =
      let s = same_read (view z) (view x) r q (sym other ∙ one) in
      record { parts = s.0; after = s.1; number = known z ∙ (ap of_parts s.0 ∙ sym (known x)) }

  alike : (p q r : Place) (x z : X) → Meaning p (Ok (x, q)) → Meaning p (Ok (z, r)) → SameItem Meaning z x
  alike p q r x z one other =
      let s = read_so p q r x z one other in (
        (p, q, other ∙ ap (λ (k : Place). Ok (view z, k)) s.after, one),
        λ a b. (
          λ h. h ∙ ap (λ (y : Y). Ok (y, b)) s.parts,
          λ h. h ∙ ap (λ (y : Y). Ok (y, b)) (sym s.parts),
        ),
      )

  nothing_left : (p : Place) → (let none : List (Result X FaultAt) = [] in none) ≡ at_the_end p → 0 < length p.rest → ⊥
  nothing_left p e h =
      let t : nat_lt 0 (length p.rest) ≡ true = lt-ltb 0 (length p.rest) h in
      let f = rw t at e in cc

  -- No result comes after the last entry.
  no_more : (s m : Ascending Items) (g : Result X Error) → s.entries.ended ≡ false → s.entries.left ≡ 0
      → (let none : List (Result X FaultAt) = [] in none) ≡ at_the_end (place s.entries.reader) → Step s (Some g) m → ⊥
  no_more s m (Ok z) running left end step = step.order.0.last running left
  no_more s m (Err e) running left end step = by step.order.0
    where
      by : NextItem Meaning s.entries (Some (Err e)) m.entries ⊎ Refuses (NextItem Meaning) start index fault s (fault_at e) m.entries → ⊥
      by (inl own) = nothing_left (place s.entries.reader) end (own.last running left).0
      by (inr refused) = refused.1.last running left

  -- An entry in order is no fault.
  no_fault : (s m : Ascending Items) (x : X) (q : Place) (e : Error) → s.entries.ended ≡ false → 0 < s.entries.left
      → Meaning (place s.entries.reader) (Ok (x, q)) → IsTrue (is_above s.last (index x)) → Step s (Some (Err e)) m → ⊥
  no_fault s m x q e running left read above step = by step.order.0
    where
      by : NextItem Meaning s.entries (Some (Err e)) m.entries ⊎ Refuses (NextItem Meaning) start index fault s (fault_at e) m.entries → ⊥
      by (inl own) = let z = sym read ∙ (own.item running left).0 in cc
      by (inr refused) =
          let r = read_so (place s.entries.reader) q (place m.entries.reader) x refused.0 read (refused.1.item running left).0 in
          let z : true ≡ false = sym above ∙ (ap (λ (i : ℕ). is_above s.last i) (sym r.number) ∙ refused.2) in cc

  pub run : (xs : List X) (s t u : Ascending Items) (given : List (Result X Error)) → s.entries.ended ≡ false → s.entries.left ≡ length xs
      → ItemsOf Meaning (length xs) (place s.entries.reader) (map as_read xs) → AscendsFrom index s.last (all_given xs)
      → Yields Step s given t → Step t None u → SameItems Meaning (map item_or_fault given) (map as_read xs)
  run [] s t u [] running left items ascends yields end = tt
  run [] s t u (g ∷ given) running left items ascends yields end = absurd (no_more s yields.0 g running left items yields.1)
  run (x ∷ xs) s t u [] running left items ascends yields end =
      absurd ((subst (λ (v : Ascending Items). Step v None u) (sym yields) end).order.0.item running (omega (arith, left)))
  run (x ∷ xs) s t u (Ok z ∷ given) running left items ascends yields end =
      let step = yields.1.order in
      let some : 0 < s.entries.left = omega (arith, left) in
      let item = step.0.item running some in
      let q : Place = items.0 in
      let mid : Ascending Items = yields.0 in
      let r = read_so (place s.entries.reader) q (place mid.entries.reader) x z items.1 item.0 in
      let last : mid.last ≡ Some (index x) = step.2 ∙ ap (λ (i : ℕ). Some i) r.number in
      let fewer = item.1 in (
        alike (place s.entries.reader) q (place mid.entries.reader) x z items.1 item.0,
        run xs mid t u given item.2 (omega (arith, left, fewer))
            (subst (λ (p : Place). ItemsOf Meaning (length xs) p (map as_read xs)) (sym r.after) items.2)
            (subst (λ (l : Option ℕ). AscendsFrom index l (all_given xs)) (sym last) ascends.1) yields.2 end,
      )
  run (x ∷ xs) s t u (Err e ∷ given) running left items ascends yields end =
      absurd (no_fault s yields.0 x items.0 e running (omega (arith, left)) items.1 ascends.0 yields.1)
