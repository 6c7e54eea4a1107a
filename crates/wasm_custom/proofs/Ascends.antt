-- What `next` returns if indices must ascend.
use Rattle.std.proofs.Common.{◌≡◌, ◌⊎◌, inl, inr, ℕ, Bool, true, false, nat_lt, ◌&&◌, IsTrue, List, [], ◌∷◌, Option, Some, None, Result, Ok}
use Rattle.std.proofs.Common.{Err, refl, sym, ap, subst, arith, ◌∙◌}
use Rattle.std.specs.Prelude.{map}
use Rattle.std.specs.Iterator.{Yields, Drains}
use Rattle.std.proofs.lemmas.Bool.{ltb-true, lt-ltb}
use Rattle.wasm_base.specs.Ascending.{Ascending, none_given, is_above, Refuses, NextAscending, NextAt, is_above_all, in_order}
use Rattle.wasm_base.specs.Ascending.{AscendsFrom, GivesAscending}
use Rattle.wasm_base.specs.FaultAt.{fault_at}
use Rattle.wasm_base.specs.Section.{item_or_fault}
use Rattle.wasm_base.specs.declared.error.Error.{Error}
use Rattle.wasm_base.specs.declared.fault.Fault.{Fault}

is_true : (b : Bool) → IsTrue b → b ≡ true
is_true b h = h

-- The last index is the highest of the earlier ones: the same indices are above it.
record IsHighest (last : Option ℕ) (earlier : List ℕ) : Type 0 where
  same : (i : ℕ) → is_above last i ≡ is_above_all earlier i

none_is_highest : IsHighest None []
none_is_highest = record { same = λ i. refl }

above_higher : (last : Option ℕ) (i j : ℕ) → is_above last i ≡ true → nat_lt i j ≡ true → is_above last j ≡ true
above_higher None i j h k = refl
above_higher (Some l) i j h k = lt-ltb l j (omega (arith, ltb-true l i h, ltb-true i j k))

higher : (last : Option ℕ) (earlier : List ℕ) (i : ℕ) → is_above last i ≡ true → IsHighest last earlier → IsHighest (Some i) (i ∷ earlier)
higher last earlier i above highest = record { same = λ j. by j (nat_lt i j) refl }
  where
    by : (j : ℕ) (b : Bool) → nat_lt i j ≡ b → nat_lt i j ≡ nat_lt i j && is_above_all earlier j
    by j true e =
        let all : is_above_all earlier j ≡ true = sym (highest.same j) ∙ above_higher last i j above e in
        rw (e, all) refl
    by j false e = rw e refl

module _ {S T : Type 0} (next : S → Option (Result T Error) → S → Type 0) (start : S → ℕ) (index : T → ℕ) (fault : Fault) where
  abbrev Step : Ascending S → Option (Result T Error) → Ascending S → Type 0
  Step = NextAscending next start index fault

  abbrev AllInOrder : Ascending S → List ℕ → List (Result T Error) → Type 0
  AllInOrder s earlier given = (all : List (ℕ × Result T Error)) × Drains (NextAt next start) s.entries all
      × (map item_or_fault given ≡ in_order index fault earlier all)

  after_fault : (s mid : Ascending S) (earlier : List ℕ) (e : Error) (given : List (Result T Error)) → IsHighest s.last earlier
      → next s.entries (Some (Err e)) mid.entries ⊎ Refuses next start index fault s (fault_at e) mid.entries
      → AllInOrder mid earlier given → AllInOrder s earlier (Err e ∷ given)
  after_fault s mid earlier e given highest (inl own) more =
      ((start s.entries, Err e) ∷ more.0, (more.1.0, (more.1.1.0, (mid.entries, (own, refl), more.1.1.1), more.1.1.2)), rw more.2 refl)
  after_fault s mid earlier e given highest (inr refused) more =
      let test : is_above_all earlier (index refused.0) ≡ false = sym (highest.same (index refused.0)) ∙ refused.2 in (
        (start s.entries, Ok refused.0) ∷ more.0,
        (more.1.0, (more.1.1.0, (mid.entries, (refused.1, refl), more.1.1.1), more.1.1.2)),
        rw (test, refused.3, more.2) refl,
      )

  run_in_order : (s t u : Ascending S) (earlier : List ℕ) (given : List (Result T Error)) → IsHighest s.last earlier → Yields Step s given t
      → Step t None u → AllInOrder s earlier given
  run_in_order s t u earlier [] highest run end = ([], (u.entries, (t.entries, ap (λ (v : Ascending S). v.entries) run, end.order.0)), refl)
  run_in_order s t u earlier (Ok x ∷ given) highest run end =
      let step = run.1.order in
      let above : is_above s.last (index x) ≡ true = is_true _ step.1 in
      let next_highest : IsHighest run.0.last (index x ∷ earlier) =
      subst (λ (l : Option ℕ). IsHighest l (index x ∷ earlier)) (sym step.2) (higher s.last earlier (index x) above highest) in
      let more = run_in_order run.0 t u (index x ∷ earlier) given next_highest run.2 end in
      let test : is_above_all earlier (index x) ≡ true = sym (highest.same (index x)) ∙ above in (
        (start s.entries, Ok x) ∷ more.0,
        (more.1.0, (more.1.1.0, (run.0.entries, (step.0, refl), more.1.1.1), more.1.1.2)),
        rw (test, more.2) refl,
      )
  run_in_order s t u earlier (Err e ∷ given) highest run end =
      let next_highest : IsHighest run.0.last earlier = subst (λ (l : Option ℕ). IsHighest l earlier) (sym run.1.order.1) highest in
      after_fault s run.0 earlier e given highest run.1.order.0 (run_in_order run.0 t u earlier given next_highest run.2 end)

  run_ascends : (s t : Ascending S) (given : List (Result T Error)) → Yields Step s given t → AscendsFrom index s.last given
  run_ascends s t [] run = tt
  run_ascends s t (Ok x ∷ given) run = (
    run.1.order.1,
    subst (λ (l : Option ℕ). AscendsFrom index l given) run.1.order.2
        (run_ascends run.0 t given run.2),
  )
  run_ascends s t (Err e ∷ given) run = subst (λ (l : Option ℕ). AscendsFrom index l given) run.1.order.1 (run_ascends run.0 t given run.2)

  module _ (over : (s t u : S) (given : Option (Result T Error)) → next s None t → next t given u → given ≡ None) where
    nothing_after : (s t u : Ascending S) (given : Option (Result T Error)) → Step s None t → Step t given u → given ≡ None
    nothing_after s t u None none went = refl
    nothing_after s t u (Some (Ok x)) none went = absurd (let e =
        over s.entries t.entries u.entries (Some (Ok x)) none.order.0 went.order.0 in cc)
    nothing_after s t u (Some (Err e)) none went = absurd (elim went.order.0 [
      | inl own ↦ (let z = over s.entries t.entries u.entries (Some (Err e)) none.order.0 own in cc)
      | inr refused ↦
          (let z = over s.entries t.entries u.entries (Some (Ok refused.0)) none.order.0 refused.1 in cc)
    ])

    pub gives_ascending : GivesAscending next start index fault Step
    gives_ascending = record {
      entries = λ s given run. run_in_order (none_given s) run.1.0 run.0 [] given none_is_highest run.1.1 run.1.2;
      ascends = λ s given run. run_ascends (none_given s) run.1.0 given run.1.1;
      after = nothing_after;
    }
