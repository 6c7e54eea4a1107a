-- Items whose meaning allows one outcome.
use Rattle.std.proofs.Common.{◌≡◌, ℕ, zero, suc, Bool, true, false, cond, List, [], ◌∷◌, length, Result, Ok, Err, refl, sym, ap, ◌∙◌, subst}
use Rattle.std.proofs.Common.{inl, inr}
use Rattle.std.specs.Prelude.{nat_lt, map}
use Rattle.std.specs.Iterator.{Drains}
use Rattle.wasm_base.specs.FaultAt.{FaultAt, fault_at, at_offset}
use Rattle.wasm_base.specs.Item.{Determines, Alike, AllowsOne, SameOutcome, ReadsAs, BothInTurn, outcome_map}
use Rattle.wasm_base.specs.Outcome.{Outcome}
use Rattle.wasm_base.specs.Owned.{UnlessMemory}
use Rattle.wasm_base.specs.Section.{Items, NextItem, NextItemIn, AtItsOffset, ItemsOf, SameItems, SameUnlessMemory, GivesTheSame}
use Rattle.wasm_base.specs.Section.{SameRuns, EqualRuns, run_over, run_with_offsets}
use Rattle.wasm_base.specs.Section.{GivesTheSameUnlessMemory, GivesEqual, at_the_end, item_or_fault, item_alone}
use Rattle.wasm_base.specs.Window.{Place, place}
use Rattle.wasm_base.specs.declared.error.Error.{Error}
use Rattle.wasm_base.specs.declared.fault.Fault.TheVariants.{SizeMismatch}
use Rattle.wasm_base.proofs.Runs.{runs_give_items, runs_give_owned_items}

module _ {T : Type 0} (meaning : Place → Outcome T → Type 0) where
  end_self : (b : Bool) (f : FaultAt) → SameItems meaning (cond b (Err f ∷ []) []) (cond b (Err f ∷ []) [])
  end_self true f = (refl, tt)
  end_self false f = tt

  same_end : (p : Place) (xs ys : List (Result T FaultAt)) → xs ≡ at_the_end p → ys ≡ at_the_end p → SameItems meaning xs ys
  same_end p xs ys e f = rw (e, f) (end_self (nat_lt 0 (length p.rest)) (at_offset SizeMismatch p.offset))

  -- The items of a window are the same, if each of them allows one outcome.
  pub same_items : AllowsOne meaning → (count : ℕ) (p : Place) (xs ys : List (Result T FaultAt)) → ItemsOf meaning count p xs
      → ItemsOf meaning count p ys → SameItems meaning xs ys
  same_items one zero p xs ys h k = same_end p xs ys h k
  same_items one (suc count) p [] ys h k = absurd h
  same_items one (suc count) p (x ∷ xs) [] h k = absurd k
  same_items one (suc count) p (Ok x ∷ xs) (Ok y ∷ ys) h k =
      let same = one.one p (Ok (x, h.0)) (Ok (y, k.0)) h.1 k.1 in
      let there : meaning p (Ok (x, k.0)) = subst (λ q. meaning p (Ok (x, q))) same.1 h.1 in
      (((p, k.0, there, k.1), same.0), same_items one count k.0 xs ys (subst (λ q. ItemsOf meaning count q xs) same.1 h.2) k.2)
  same_items one (suc count) p (Ok x ∷ xs) (Err f ∷ ys) h k = absurd (one.one p (Ok (x, h.0)) (Err f) h.1 k.0)
  same_items one (suc count) p (Err e ∷ xs) (Ok y ∷ ys) h k = absurd (one.one p (Err e) (Ok (y, k.0)) h.0 k.1)
  same_items one (suc count) p (Err e ∷ xs) (Err f ∷ ys) h k = (one.one p (Err e) (Err f) h.0 k.0, rw (h.1, k.1) tt)

  -- They are equal, if the meaning determines each of them.
  pub equal_items : Determines meaning → (count : ℕ) (p : Place) (xs ys : List (Result T FaultAt)) → ItemsOf meaning count p xs
      → ItemsOf meaning count p ys → xs ≡ ys
  equal_items det zero p xs ys h k = h ∙ sym k
  equal_items det (suc count) p [] ys h k = absurd h
  equal_items det (suc count) p (x ∷ xs) [] h k = absurd k
  equal_items det (suc count) p (Ok x ∷ xs) (Ok y ∷ ys) h k =
      let left : T × Place = (x, h.0) in
      let right : T × Place = (y, k.0) in
      let all : Ok left ≡ Ok right = det.one p (Ok (x, h.0)) (Ok (y, k.0)) h.1 k.1 in
      let both : left ≡ right = cc in
      let same : x ≡ y = ap (λ z. z.0) both in
      let rest = equal_items det count k.0 xs ys (subst (λ q. ItemsOf meaning count q xs) (ap (λ z. z.1) both) h.2) k.2 in
      rw (same, rest) refl
  equal_items det (suc count) p (Ok x ∷ xs) (Err f ∷ ys) h k = absurd (let e = det.one p (Ok (x, h.0)) (Err f) h.1 k.0 in cc)
  equal_items det (suc count) p (Err e ∷ xs) (Ok y ∷ ys) h k = absurd (let f = det.one p (Err e) (Ok (y, k.0)) h.0 k.1 in cc)
  equal_items det (suc count) p (Err e ∷ xs) (Err f ∷ ys) h k =
      let all = det.one p (Err e) (Err f) h.0 k.0 in
      let same : e ≡ f = cc in
      rw (same, h.1, k.1) refl

  -- Without their offsets they are the items of the window.
  without_offsets : (count : ℕ) (p : Place) (xs : List (Result (ℕ × T) Error))
      → ItemsOf (AtItsOffset meaning) count p (map item_or_fault xs) → ItemsOf meaning count p (map item_alone xs)
  without_offsets zero p [] h = last (nat_lt 0 (length p.rest)) h
    where
      last : (b : Bool) → [] ≡ cond b (let x : Result (ℕ × T) FaultAt = Err (at_offset SizeMismatch p.offset) in x ∷ []) [] → []
          ≡ cond b (let x : Result T FaultAt = Err (at_offset SizeMismatch p.offset) in x ∷ []) []
      last true e = cc
      last false e = refl
  without_offsets zero p (x ∷ xs) h = last x xs (nat_lt 0 (length p.rest)) h
    where
      last : (x : Result (ℕ × T) Error) (xs : List (Result (ℕ × T) Error)) (b : Bool) → item_or_fault x ∷ map item_or_fault xs
          ≡ cond b (let y : Result (ℕ × T) FaultAt = Err (at_offset SizeMismatch p.offset) in y ∷ []) [] → item_alone x ∷ map item_alone xs
          ≡ cond b (let y : Result T FaultAt = Err (at_offset SizeMismatch p.offset) in y ∷ []) []
      last (Ok x) xs true e = cc
      last (Err f) [] true e = let z : fault_at f ≡ at_offset SizeMismatch p.offset = cc in rw z refl
      last (Err f) (y ∷ xs) true e = cc
      last x xs false e = cc
  without_offsets (suc count) p [] h = h
  without_offsets (suc count) p (Ok x ∷ xs) h = (h.0, h.1.1, without_offsets count h.0 xs h.2)
  without_offsets (suc count) p (Err e ∷ []) h = (h.0, refl)
  without_offsets (suc count) p (Err e ∷ x ∷ xs) h = absurd (let e = h.1 in cc)

  module _ (Agree : List (Result T FaultAt) → List (Result T FaultAt) → Type 0) (none : Agree [] [])
      (items : (count : ℕ) (p : Place) (xs ys : List (Result T FaultAt)) → ItemsOf meaning count p xs → ItemsOf meaning count p ys
      → Agree xs ys) where
    -- Two runs from the same place agree, if all lists of the window's items do.
    runs_agree : (s t : Items) → t ≡ s → (given others : List (Result T Error)) → Drains (NextItem meaning) s given
        → Drains (NextItem meaning) t others → Agree (map item_or_fault given) (map item_or_fault others)
    runs_agree s t e given others run others_run = by_ended s.ended refl
      where
        again : Drains (NextItem meaning) s others
        again = subst (λ (v : Items). Drains (NextItem meaning) v others) e others_run

        by_ended : (b : Bool) → s.ended ≡ b → Agree (map item_or_fault given) (map item_or_fault others)
        by_ended true ended = rw ((runs_give_items meaning s).over ended given run, (runs_give_items meaning s).over ended others again)
            none
        by_ended false going = items s.left (place s.reader) _ _ ((runs_give_items meaning s).items going given run)
            ((runs_give_items meaning s).items going others again)

    -- So do runs without and with offsets.
    offsets_agree : (s : Items) (given : List (Result T Error)) (others : List (Result (ℕ × T) Error)) → Drains (NextItem meaning) s given
        → Drains (NextItem (AtItsOffset meaning)) s others → Agree (map item_or_fault given) (map item_alone others)
    offsets_agree s given others run others_run = by_ended s.ended refl
      where
        by_ended : (b : Bool) → s.ended ≡ b → Agree (map item_or_fault given) (map item_alone others)
        by_ended true ended = rw (
          (runs_give_items meaning s).over ended given run,
          (runs_give_items (AtItsOffset meaning) s).over ended others others_run,
        ) none
        by_ended false going = items s.left (place s.reader) _ _ ((runs_give_items meaning s).items going given run)
            (without_offsets s.left (place s.reader) others ((runs_give_items (AtItsOffset meaning) s).items going others others_run))

  pub runs_give_the_same : AllowsOne meaning → (s t : Items) → t ≡ s
      → SameRuns meaning (NextItem meaning) s t
  runs_give_the_same one = runs_agree (SameItems meaning) tt (same_items one)

  pub runs_give_equal : Determines meaning → (s t : Items) → t ≡ s
      → EqualRuns (NextItem meaning) s t
  runs_give_equal det = runs_agree (λ xs ys. xs ≡ ys) refl (equal_items det)

  pub offsets_give_the_same : AllowsOne meaning → (s : Items) → GivesTheSame meaning (run_over (NextItem meaning) s)
      (run_with_offsets (NextItem (AtItsOffset meaning)) s)
  offsets_give_the_same one = offsets_agree (SameItems meaning) tt (same_items one)

  pub offsets_give_equal : Determines meaning → (s : Items) → GivesEqual (run_over (NextItem meaning) s)
      (run_with_offsets (NextItem (AtItsOffset meaning)) s)
  offsets_give_equal det = offsets_agree (λ xs ys. xs ≡ ys) refl (equal_items det)

-- The same laws hold for items that own lists, up to an out-of-memory fault.
module _ {T : Type 0} (meaning : Place → Outcome T → Type 0) where
  end_again : (b : Bool) (f : FaultAt) → SameUnlessMemory meaning (cond b (Err f ∷ []) []) (cond b (Err f ∷ []) [])
  end_again true f = inl refl
  end_again false f = tt

  same_owned_end : (p : Place) (xs ys : List (Result T FaultAt)) → xs ≡ at_the_end p → ys ≡ at_the_end p → SameUnlessMemory meaning xs ys
  same_owned_end p xs ys e f = rw (e, f) (end_again (nat_lt 0 (length p.rest)) (at_offset SizeMismatch p.offset))

  same_owned_items : AllowsOne meaning → (count : ℕ) (p : Place) (xs ys : List (Result T FaultAt))
      → ItemsOf (UnlessMemory meaning) count p xs → ItemsOf (UnlessMemory meaning) count p ys → SameUnlessMemory meaning xs ys
  same_owned_items one zero p xs ys h k = same_owned_end p xs ys h k
  same_owned_items one (suc count) p [] ys h k = absurd h
  same_owned_items one (suc count) p (x ∷ xs) [] h k = absurd k
  same_owned_items one (suc count) p (Ok x ∷ xs) (Ok y ∷ ys) h k =
      let same = one.one p (Ok (x, h.0)) (Ok (y, k.0)) h.1 k.1 in
      let there : meaning p (Ok (x, k.0)) = subst (λ q. meaning p (Ok (x, q))) same.1 h.1 in (
        ((p, k.0, there, k.1), same.0),
        same_owned_items one count k.0 xs ys
            (subst (λ q. ItemsOf (UnlessMemory meaning) count q xs) same.1 h.2) k.2,
      )
  same_owned_items one (suc count) p (Ok x ∷ xs) (Err f ∷ ys) h (inl none, last) = none
  same_owned_items one (suc count) p (Ok x ∷ xs) (Err f ∷ ys) h (inr fault, last) = absurd (one.one p (Ok (x, h.0)) (Err f) h.1 fault)
  same_owned_items one (suc count) p (Err e ∷ xs) (Ok y ∷ ys) (inl none, last) k = none
  same_owned_items one (suc count) p (Err e ∷ xs) (Ok y ∷ ys) (inr fault, last) k = absurd (one.one p (Err e) (Ok (y, k.0)) fault k.1)
  same_owned_items one (suc count) p (Err e ∷ xs) (Err f ∷ ys) (inl none, last) k = inr (inl none)
  same_owned_items one (suc count) p (Err e ∷ xs) (Err f ∷ ys) (inr fault, last) (inl none, end) = inr (inr none)
  same_owned_items one (suc count) p (Err e ∷ xs) (Err f ∷ ys) (inr fault, last) (inr other, end) =
      inl (one.one p (Err e) (Err f) fault other)

  pub runs_give_the_same_owned : AllowsOne meaning → (s t : Items) → t ≡ s → GivesTheSameUnlessMemory meaning (NextItemIn meaning) s t
  runs_give_the_same_owned one s t e given others run others_run = by_ended s.ended refl
    where
      again : Drains (NextItemIn meaning) s others
      again = subst (λ (v : Items). Drains (NextItemIn meaning) v others) e others_run

      by_ended : (b : Bool) → s.ended ≡ b → SameUnlessMemory meaning (map item_or_fault given) (map item_or_fault others)
      by_ended true ended = rw (
        (runs_give_owned_items meaning s).over ended given run,
        (runs_give_owned_items meaning s).over ended others again,
      ) tt
      by_ended false going = same_owned_items one s.left (place s.reader) _ _ ((runs_give_owned_items meaning s).items going given run)
          ((runs_give_owned_items meaning s).items going others again)

-- What is read by a function of the place allows one outcome, whatever counts of its value.
pub reads_as_one : {X Y : Type 0} (view : X → Y) (reading : Place → Outcome Y) → AllowsOne (ReadsAs view reading)
reads_as_one {X} {Y} view reading = record { one = one }
  where
    one : (p : Place) (a b : Outcome X) → reading p ≡ outcome_map view a → reading p ≡ outcome_map view b
        → SameOutcome (ReadsAs view reading) a b
    one p (Ok x) (Ok y) h k =
        let left : Y × Place = (view x.0, x.1) in
        let right : Y × Place = (view y.0, y.1) in
        let both : left ≡ right = cc in
        let same : view x.0 ≡ view y.0 = ap (λ z. z.0) both in
        (λ q r. ((λ m. rw (← same) m), (λ m. rw same m)), ap (λ z. z.1) both)
    one p (Ok x) (Err f) h k = cc
    one p (Err e) (Ok y) h k = cc
    one p (Err e) (Err f) h k = cc

-- What is read by a function of the place, of which all counts, is determined.
pub reads_determine : {X : Type 0} (reading : Place → Outcome X) → Determines (ReadsAs (λ x. x) reading)
reads_determine {X} reading = record { one = one }
  where
    one : (p : Place) (a b : Outcome X) → reading p ≡ outcome_map (λ x. x) a → reading p ≡ outcome_map (λ x. x) b → a ≡ b
    one p (Ok x) (Ok y) h k = sym h ∙ k
    one p (Ok x) (Err f) h k = cc
    one p (Err e) (Ok y) h k = cc
    one p (Err e) (Err f) h k = sym h ∙ k

module _ {A B : Type 0} (first : Place → Outcome A → Type 0) (second : Place → Outcome B → Type 0) where
  pair_of_alike : (x y : A × B) → Alike first x.0 y.0 → Alike second x.1 y.1 → (p q : Place) → BothInTurn first second p (Ok (x, q))
      → BothInTurn first second p (Ok (y, q))
  pair_of_alike x y h k p q m = (m.0, (h p m.0).0 m.1, (k m.0 q).0 m.2)

  alike_back : {T : Type 0} (meaning : Place → Outcome T → Type 0) (x y : T) → Alike meaning x y → Alike meaning y x
  alike_back meaning x y h p q = ((h p q).1, (h p q).0)

  -- So does a pair of what allows one.
  pub both_in_turn_one : AllowsOne first → AllowsOne second → AllowsOne (BothInTurn first second)
  both_in_turn_one a b = record { one = one }
    where
      one : (p : Place) (x y : Outcome (A × B)) → BothInTurn first second p x → BothInTurn first second p y
          → SameOutcome (BothInTurn first second) x y
      one p (Ok x) (Ok y) h k =
          let f = a.one p (Ok (x.0.0, h.0)) (Ok (y.0.0, k.0)) h.1 k.1 in
          let s = b.one k.0 (Ok (x.0.1, x.1)) (Ok (y.0.1, y.1)) (subst (λ q. second q (Ok (x.0.1, x.1))) f.1 h.2) k.2 in (
            λ q r. (
              pair_of_alike x.0 y.0 f.0 s.0 q r,
              pair_of_alike y.0 x.0 (alike_back first x.0.0 y.0.0 f.0)
                  (alike_back second x.0.1 y.0.1 s.0) q r,
            ),
            s.1,
          )
      one p (Ok x) (Err e) h (inl k) = absurd (a.one p (Ok (x.0.0, h.0)) (Err e) h.1 k)
      one p (Ok x) (Err e) h (inr k) =
          let f = a.one p (Ok (x.0.0, h.0)) (Ok (k.0, k.1)) h.1 k.2 in
          absurd (b.one k.1 (Ok (x.0.1, x.1)) (Err e) (subst (λ q. second q (Ok (x.0.1, x.1))) f.1 h.2) k.3)
      one p (Err e) (Ok y) (inl h) k = absurd (a.one p (Err e) (Ok (y.0.0, k.0)) h k.1)
      one p (Err e) (Ok y) (inr h) k =
          let f = a.one p (Ok (h.0, h.1)) (Ok (y.0.0, k.0)) h.2 k.1 in
          absurd (b.one k.0 (Err e) (Ok (y.0.1, y.1)) (subst (λ q. second q (Err e)) f.1 h.3) k.2)
      one p (Err e) (Err f) (inl h) (inl k) = a.one p (Err e) (Err f) h k
      one p (Err e) (Err f) (inl h) (inr k) = absurd (a.one p (Err e) (Ok (k.0, k.1)) h k.2)
      one p (Err e) (Err f) (inr h) (inl k) = absurd (a.one p (Ok (h.0, h.1)) (Err f) h.2 k)
      one p (Err e) (Err f) (inr h) (inr k) =
          let s = a.one p (Ok (h.0, h.1)) (Ok (k.0, k.1)) h.2 k.2 in
          b.one k.1 (Err e) (Err f) (subst (λ q. second q (Err e)) s.1 h.3) k.3

  -- A pair of what is determined is determined.
  pub both_in_turn_determine : Determines first → Determines second → Determines (BothInTurn first second)
  both_in_turn_determine a b = record { one = one }
    where
      differ : {X : Type 0} (x : X × Place) (e : FaultAt) → (let o : Outcome X = Ok x in o) ≡ Err e → ⊥
      differ x e h = cc

      between : {X : Type 0} (x y : X × Place) → (let o : Outcome X = Ok x in o) ≡ Ok y → x ≡ y
      between x y h = cc

      one : (p : Place) (x y : Outcome (A × B)) → BothInTurn first second p x → BothInTurn first second p y → x ≡ y
      one p (Ok x) (Ok y) h k =
          let f = between _ _ (a.one p (Ok (x.0.0, h.0)) (Ok (y.0.0, k.0)) h.1 k.1) in
          let s = between _ _ (b.one k.0 (Ok (x.0.1, x.1)) (Ok (y.0.1, y.1)) (subst (λ q. second q (Ok (x.0.1, x.1))) (ap (λ z. z.1) f) h.2)
          k.2) in
          λ i. Ok (((f i).0, (s i).0), (s i).1)
      one p (Ok x) (Err e) h (inl k) = absurd (differ _ e (a.one p (Ok (x.0.0, h.0)) (Err e) h.1 k))
      one p (Ok x) (Err e) h (inr k) =
          let f = between _ _ (a.one p (Ok (x.0.0, h.0)) (Ok (k.0, k.1)) h.1 k.2) in
          absurd (differ _ e (b.one k.1 (Ok (x.0.1, x.1)) (Err e) (subst (λ q. second q (Ok (x.0.1, x.1))) (ap (λ z. z.1) f) h.2) k.3))
      one p (Err e) (Ok y) (inl h) k = absurd (differ _ e (sym (a.one p (Err e) (Ok (y.0.0, k.0)) h k.1)))
      one p (Err e) (Ok y) (inr h) k =
          let f = between _ _ (a.one p (Ok (h.0, h.1)) (Ok (y.0.0, k.0)) h.2 k.1) in
          absurd (differ _ e (sym (b.one k.0 (Err e) (Ok (y.0.1, y.1)) (subst (λ q. second q (Err e)) (ap (λ z. z.1) f) h.3) k.2)))
      one p (Err e) (Err f) (inl h) (inl k) = let same = a.one p (Err e) (Err f) h k in cc
      one p (Err e) (Err f) (inl h) (inr k) = absurd (differ _ e (sym (a.one p (Err e) (Ok (k.0, k.1)) h k.2)))
      one p (Err e) (Err f) (inr h) (inl k) = absurd (differ _ f (a.one p (Ok (h.0, h.1)) (Err f) h.2 k))
      one p (Err e) (Err f) (inr h) (inr k) =
          let s = between _ _ (a.one p (Ok (h.0, h.1)) (Ok (k.0, k.1)) h.2 k.2) in
          let same = b.one k.1 (Err e) (Err f) (subst (λ q. second q (Err e)) (ap (λ z. z.1) s) h.3) k.3 in
          cc
