-- One call of `next` over the bundles of an import section, in terms of their remaining imports.
use Rattle.std.proofs.Common.{◌≡◌, ℕ, zero, suc, ◌<◌, ◌⊎◌, inl, inr, length, nat_lt, lt-ltb, Bool, true, false, List, [], ◌∷◌, ◌++◌, Option}
use Rattle.std.proofs.Common.{Some, None, Result, Ok, Err, refl, sym, ap, arith, ◌∙◌}
use Rattle.std.specs.Prelude.{map}
use Rattle.std.specs.Iterator.{Yields}
use Rattle.wasm_base.specs.FaultAt.{FaultAt, fault_at}
use Rattle.wasm_base.specs.Item.{ReadsAs}
use Rattle.wasm_base.specs.Section.{Items, NextItem}
use Rattle.wasm_base.specs.Window.{place}
use Rattle.wasm_base.specs.declared.error.Error.{Error}
use Rattle.wasm_items.specs.Flattened.{bundle_imports, imports_of_bundles, NextImport, GivesAll}
use Rattle.wasm_items.specs.Imports.{ImportParts, bundle_parts, bundle_at}
use Rattle.wasm_items.specs.declared.imports.Imports.{Imports}

-- An item was returned, so the iterator hadn't ended.
going : (ended : Bool) (s t : Items) (x : Result Imports Error) → s.ended ≡ ended
    → NextItem {T = Imports} (ReadsAs bundle_parts bundle_at) s (Some x) t → ended ≡ false
going true s t x e next = absurd (let z = (next.over e).0 in cc)
going false s t x e next = refl

some_left : (left : ℕ) (s t : Items) (x : Imports) → s.left ≡ left → s.ended ≡ false
    → NextItem {T = Imports} (ReadsAs bundle_parts bundle_at) s (Some (Ok x)) t → 0 < left
some_left zero s t x e going next = absurd (next.last going e)
some_left (suc left) s t x e going next = omega arith

some_left_err : (left : ℕ) (s t : Items) (e : Error) → s.left ≡ left → s.ended ≡ false
    → NextItem {T = Imports} (ReadsAs bundle_parts bundle_at) s (Some (Err e)) t
    → (0 < left) ⊎ (imports_of_bundles s ≡ Err (fault_at e) ∷ [])
some_left_err zero s t e z on next =
    let last = next.last on z in
    let test : nat_lt 0 (length (place s.reader).rest) ≡ true = lt-ltb _ _ last.0 in
    inr (rw (on, z, test, last.1) refl)
some_left_err (suc left) s t e z on next = inl (omega arith)

over_after : (left : ℕ) (s t : Items) (e : Error) → s.left ≡ left → s.ended ≡ false
    → NextItem {T = Imports} (ReadsAs bundle_parts bundle_at) s (Some (Err e)) t → t.ended ≡ true
over_after zero s t e z on next = ap (λ (w : Items). w.ended) (next.last on z).2
over_after (suc left) s t e z on next = (next.item on (omega (arith, z))).2

-- a fault was returned, and nothing remains
pub fault_given : (s t : Items) (e : Error) → NextItem {T = Imports} (ReadsAs bundle_parts bundle_at) s (Some (Err e)) t
    → (imports_of_bundles s ≡ Err (fault_at e) ∷ []) × (imports_of_bundles t ≡ [])
fault_given s t e next =
    let on : s.ended ≡ false = going s.ended s t (Err e) refl next in
    let over : t.ended ≡ true = over_after s.left s t e refl on next in
    let first : imports_of_bundles s ≡ Err (fault_at e) ∷ [] = elim (some_left_err s.left s t e refl on next)
    [ inl some ↦ read_fault s t e on some next | inr h ↦ h ] in
    (first, rw over refl)
  where
    read_fault : (s t : Items) (e : Error) → s.ended ≡ false → 0 < s.left
        → NextItem {T = Imports} (ReadsAs bundle_parts bundle_at) s (Some (Err e)) t → imports_of_bundles s ≡ Err (fault_at e) ∷ []
    read_fault s t e on some next =
        let item = next.item on some in
        let left : s.left ≡ suc t.left = omega (arith, item.1) in
        rw (on, left, item.0) refl

-- No imports of the bundle remained, and the next one starts: the remaining imports don't change.
pub bundle_follows : (bundle started s t whole : List (Result (ℕ × ImportParts) FaultAt)) → bundle ++ s ≡ whole → bundle ≡ []
    → s ≡ started ++ t
    → started ++ t ≡ whole
bundle_follows bundle started s t whole e none next =
    let h : [] ++ s ≡ whole = rw none at e in
    sym next ∙ h

-- No imports of the bundle remained, and the next one is a fault.
pub fault_follows : (bundle after s t whole : List (Result (ℕ × ImportParts) FaultAt)) (fault : FaultAt) → bundle ++ s ≡ whole → bundle ≡ []
    → after ≡ [] → s ≡ Err fault ∷ [] → t ≡ [] → whole ≡ Err fault ∷ (after ++ t)
fault_follows bundle after s t whole fault e none none_after next over =
    let h : [] ++ s ≡ whole = rw none at e in
    rw (none_after, over) (sym h ∙ next)

-- No imports of the bundle remained, and the next item is a single import.
pub single_follows : (bundle after s t whole : List (Result (ℕ × ImportParts) FaultAt)) (one : Result (ℕ × ImportParts) FaultAt)
    → bundle ++ s ≡ whole → bundle ≡ [] → after ≡ [] → s ≡ (one ∷ []) ++ t → whole ≡ one ∷ (after ++ t)
single_follows bundle after s t whole one e none none_after next =
    let h : [] ++ s ≡ whole = rw none at e in
    rw none_after (sym h ∙ next)

-- a bundle was returned, and the others remain
pub bundle_given : (s t : Items) (x : Imports) → NextItem {T = Imports} (ReadsAs bundle_parts bundle_at) s (Some (Ok x)) t
    → imports_of_bundles s ≡ bundle_imports (bundle_parts x) ++ imports_of_bundles t
bundle_given s t x next =
    let on : s.ended ≡ false = going s.ended s t (Ok x) refl next in
    let item = next.item on (some_left s.left s t x refl on next) in
    let left : s.left ≡ suc t.left = omega (arith, item.1) in
    let read = item.0 in
    rw (on, left, read, item.2) refl

module _ {X B : Type 0} (view : Result X Error → B) where
  run_is_all : (s t u : List B) (given : List (Result X Error)) → Yields (NextImport view) s given t → NextImport view t None u
      → map view given ≡ s
  run_is_all s t u [] run end = sym (run ∙ end.0.0)
  run_is_all s t u (x ∷ given) run end = rw (run_is_all run.0 t u given run.2 end) (sym run.1.0)

  nothing_after : (s t u : List B) (given : Option (Result X Error)) → NextImport view s None t → NextImport view t given u → given ≡ None
  nothing_after s t u None end next = refl
  nothing_after s t u (Some x) end next = absurd (let z : [] ≡ view x ∷ u = sym end.0.1 ∙ next.0 in cc)

  -- All remaining items are returned.
  pub gives_all : GivesAll view (NextImport view)
  gives_all = record {
    items = λ s given run. run_is_all s run.1.0 run.0 given run.1.1 run.1.2;
    after = λ s t u given end next. nothing_after s t u given end next;
  }
