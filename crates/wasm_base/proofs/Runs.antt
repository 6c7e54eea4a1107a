-- The results of calls of `next`, one after the other.
use Rattle.std.proofs.Common.{◌≡◌, ℕ, zero, suc, ◌+◌, ◌<◌, ◌≤◌, Bool, true, false, cond, List, [], ◌∷◌, length, Option, Some, None, Result}
use Rattle.std.proofs.Common.{Ok, Err, refl, sym, subst, arith}
use Rattle.std.specs.Prelude.{nat_lt, map}
use Rattle.std.specs.Iterator.{Yields}
use Rattle.std.proofs.lemmas.Bool.{le-ltb, lt-ltb}
use Rattle.wasm_base.specs.Outcome.{Outcome}
use Rattle.wasm_base.specs.Owned.{UnlessMemory}
use Rattle.wasm_base.specs.Section.{Items, NextItem, NextItemIn, ReadsItem, ReadsEnd, ItemsOf, GivesItems, most_items, item_or_fault}
use Rattle.wasm_base.specs.Window.{Place, place}
use Rattle.wasm_base.specs.declared.error.Error.{Error}

-- what a call of `next` does, whatever it says of memory and hints
record Steps {T : Type 0} (meaning : Place → Outcome T → Type 0) (s : Items) (given : Option (Result T Error)) (t : Items) : Type 0 where
  over : s.ended ≡ true → (given ≡ None) × (t ≡ s)
  item : s.ended ≡ false → 0 < s.left → ReadsItem meaning s given t
  last : s.ended ≡ false → s.left ≡ 0 → ReadsEnd s given t

module _ {T : Type 0} (meaning : Place → Outcome T → Type 0) (next : Items → Option (Result T Error) → Items → Type 0)
    (steps : (s t : Items) (given : Option (Result T Error)) → next s given t → Steps meaning s given t) where
  -- An iterator that is over yields nothing.
  over_gives_nothing : (s t : Items) (given : List (Result T Error)) → s.ended ≡ true → Yields next s given t → given ≡ []
  over_gives_nothing s t [] ended run = refl
  over_gives_nothing s t (x ∷ given) ended run = absurd (let e = ((steps _ _ _ run.1).over ended).0 in cc)

  -- The items, by how many remain.
  run_is_items : (left : ℕ) (s t u : Items) (given : List (Result T Error)) → s.ended ≡ false → s.left ≡ left → Yields next s given t
      → next t None u
      → ItemsOf meaning left (place s.reader) (map item_or_fault given)
  run_is_items zero s t u [] going none run end =
      let last : ReadsEnd {T = T} s None u = subst (λ (v : Items). v.ended ≡ false → v.left ≡ 0 → ReadsEnd {T = T} v None u) (sym run)
      (steps _ _ _ end).last going none in
      let test : nat_lt 0 (length (place s.reader).rest) ≡ false = le-ltb _ _ (omega (arith, last.0)) in
      rw test refl
  run_is_items zero s t u (Ok x ∷ given) going none run end = absurd ((steps _ _ _ run.1).last going none)
  run_is_items zero s t u (Err e ∷ given) going none run end =
      let last = (steps _ _ _ run.1).last going none in
      let test : nat_lt 0 (length (place s.reader).rest) ≡ true = lt-ltb _ _ last.0 in
      let ended : run.0.ended ≡ true = rw last.2 refl in
      let nothing = over_gives_nothing run.0 t given ended run.2 in
      rw (test, nothing, last.1) refl
  run_is_items (suc left) s t u [] going some run end =
      subst (λ (v : Items). v.ended ≡ false → 0 < v.left → ReadsItem meaning v None u) (sym run) (steps _ _ _ end).item going
      (omega (arith, some))
  run_is_items (suc left) s t u (Ok x ∷ given) going some run end =
      let item = (steps _ _ _ run.1).item going (omega (arith, some)) in
      (place run.0.reader, item.0, run_is_items left run.0 t u given item.2 (omega (arith, item.1, some)) run.2 end)
  run_is_items (suc left) s t u (Err e ∷ given) going some run end =
      let item = (steps _ _ _ run.1).item going (omega (arith, some)) in
      (item.0, rw (over_gives_nothing run.0 t given item.2 run.2) refl)

  going_on : (left : ℕ) (s t : Items) (x : Result T Error) → s.ended ≡ false → s.left ≡ left → next s (Some x) t → most_items t < s.left + 1
  going_on zero s t (Ok x) going none went = absurd ((steps _ _ _ went).last going none)
  going_on zero s t (Err e) going none went =
      let ended : t.ended ≡ true = rw ((steps _ _ _ went).last going none).2 refl in
      rw ended (omega arith)
  going_on (suc left) s t (Ok x) going some went =
      let item = (steps _ _ _ went).item going (omega (arith, some)) in
      rw item.2 (omega (arith, item.1))
  going_on (suc left) s t (Err e) going some went = rw ((steps _ _ _ went).item going (omega (arith, some))).2 (omega arith)

  -- An item lowers the number of those that may still come.
  one_less : (b : Bool) (s t : Items) (x : Result T Error) → s.ended ≡ b → next s (Some x) t → most_items t < cond b 0 (s.left + 1)
  one_less true s t x ended went = absurd (let e = ((steps _ _ _ went).over ended).0 in cc)
  one_less false s t x going went = going_on s.left s t x going refl went

  no_more : (s t : Items) (given : List (Result T Error)) → Yields next s given t → length given ≤ most_items s
  no_more s t [] run = omega arith
  no_more s t (x ∷ given) run =
      let rest = no_more run.0 t given run.2 in
      let less = one_less s.ended s run.0 x refl run.1 in
      omega (arith, rest, less)

  -- A call that gave nothing left the iterator over.
  none_ends : (b : Bool) (left : ℕ) (s t : Items) → s.ended ≡ b → s.left ≡ left → next s None t → t.ended ≡ true
  none_ends true left s t ended e went = rw ((steps _ _ _ went).over ended).1 ended
  none_ends false zero s t going none went = rw ((steps _ _ _ went).last going none).1 refl
  none_ends false (suc left) s t going some went = absurd ((steps _ _ _ went).item going (omega (arith, some)))

  runs_give : (s : Items) → GivesItems next meaning s
  runs_give s = record {
    items = λ going given run. run_is_items s.left s run.1.0 run.0 given going refl run.1.1 run.1.2;
    over = λ ended given run. over_gives_nothing s run.1.0 given ended run.1.1;
    at_most = λ given run. no_more s run.1.0 given run.1.1;
    after = λ t u given none went. ((steps _ _ _ went).over (none_ends s.ended s.left s t refl refl none)).0;
  }

module _ {T : Type 0} (meaning : Place → Outcome T → Type 0) where
  pub runs_give_items : (s : Items) → GivesItems (NextItem meaning) meaning s
  runs_give_items = runs_give meaning (NextItem meaning) (λ s t given went. record { over = went.over; item = went.item; last = went.last })

  -- Where memory may be refused, an item may come to that.
  pub runs_give_owned_items : (s : Items) → GivesItems (NextItemIn meaning) (UnlessMemory meaning) s
  runs_give_owned_items = runs_give (UnlessMemory meaning) (NextItemIn meaning)
      (λ s t given went. record { over = went.over; item = went.item; last = went.last })
