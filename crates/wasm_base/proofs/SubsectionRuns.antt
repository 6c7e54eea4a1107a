-- The results of calls of `next` over subsections, one after the other.
use Rattle.std.proofs.Common.{◌≡◌, ℕ, ◌-◌, ◌<◌, ◌≤◌, Bool, List, [], ◌∷◌, length, drop, Option, Some, None, Result, Ok, Err, refl, sym}
use Rattle.std.proofs.Common.{subst, arith, length-drop}
use Rattle.std.specs.Prelude.{map}
use Rattle.std.specs.Iterator.{Yields}
use Rattle.wasm_base.specs.FaultAt.{FaultAt}
use Rattle.wasm_base.specs.Outcome.{Outcome}
use Rattle.wasm_base.specs.Section.{item_or_fault}
use Rattle.wasm_base.specs.Subsections.{UnlessTaken, ReadsSubsection, NextSubsection, FirstSubsection, SubsectionsOf, GivesSubsections}
use Rattle.wasm_base.specs.Subsections.{subsection_at}
use Rattle.wasm_base.specs.Window.{Window, Place, place, KeepsWindow}
use Rattle.wasm_base.specs.declared.error.Error.{Error}

module _ {T : Type 0} (meaning : ℕ → Window → Result T FaultAt → Type 0) (takes : Bool) where
  first : (s t : Window) (o : Outcome (ℕ × Window)) (x : Result T Error) (given : List (Result T FaultAt))
      → ReadsSubsection meaning takes (place s) o x (place t) → SubsectionsOf (UnlessTaken meaning takes) (place t) given
      → FirstSubsection (UnlessTaken meaning takes) (place s) o (item_or_fault x) (λ q. SubsectionsOf (UnlessTaken meaning takes) q given)
  first s t (Ok head) x given reads others = (
    reads.0,
    subst (λ (q : Place). SubsectionsOf (UnlessTaken meaning takes) q given) reads.1
        others,
  )
  first s t (Err fault) x given reads others = (
    reads.0,
    subst (λ (q : Place). SubsectionsOf (UnlessTaken meaning takes) q given) reads.1
        others,
  )

  run_is_subsections : (s t u : Window) (given : List (Result T Error)) → Yields (NextSubsection meaning takes) s given t
      → NextSubsection meaning takes t None u → SubsectionsOf (UnlessTaken meaning takes) (place s) (map item_or_fault given)
  run_is_subsections s t u [] run end = (subst (λ (v : Window). NextSubsection {T = T} meaning takes v None u) (sym run) end).0
  run_is_subsections s t u (x ∷ given) run end = (
    run.1.3,
    first s run.0 (subsection_at (place s)) x (map item_or_fault given) run.1.0
        (run_is_subsections run.0 t u given run.2 end),
  )

  -- A call leaves fewer bytes.
  fewer : (s t : Window) → KeepsWindow s t → s.position < t.position → 0 < length (place s).rest
      → length (place t).rest < length (place s).rest
  fewer s t kept moves some =
      let here : length (drop s.position s.bytes) ≡ length s.bytes - s.position = length-drop s.position s.bytes in
      let there : length (drop t.position t.bytes) ≡ length s.bytes - t.position = rw kept.bytes (length-drop t.position s.bytes) in
      omega (arith, here, there, moves, some)

  no_more : (s t : Window) (given : List (Result T Error)) → Yields (NextSubsection meaning takes) s given t
      → length given ≤ length (place s).rest
  no_more s t [] run = omega arith
  no_more s t (x ∷ given) run =
      let rest = no_more run.0 t given run.2 in
      let less = fewer s run.0 run.1.1 run.1.2 run.1.3 in
      omega (arith, rest, less)

  nothing_after : (s t u : Window) (given : Option (Result T Error)) → NextSubsection {T = T} meaning takes s None t
      → NextSubsection meaning takes t given u → given ≡ None
  nothing_after s t u None none went = refl
  nothing_after s t u (Some x) none went = absurd (let some : 0 < length (place s).rest =
      subst (λ (v : Window). 0 < length (place v).rest) none.1 went.3 in omega (arith, some, none.0))

  pub runs_give_subsections : (s : Window) → GivesSubsections (NextSubsection meaning takes) (UnlessTaken meaning takes) s
  runs_give_subsections s = record {
    subsections = λ given run. run_is_subsections s run.1.0 run.0 given run.1.1 run.1.2;
    at_most = λ given run. no_more s run.1.0 given run.1.1;
    after = nothing_after s;
  }
