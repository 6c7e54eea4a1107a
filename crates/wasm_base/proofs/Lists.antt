-- Lists whose items are read by a function of their place.
use Rattle.std.proofs.Common.{◌≡◌, inl, inr, ℕ, zero, suc, List, [], ◌∷◌, Result, Ok, Err, refl, ap, ◌∙◌}
use Rattle.std.specs.Prelude.{map}
use Rattle.wasm_base.specs.Item.{ReadsAs, outcome_map}
use Rattle.wasm_base.specs.Number.{unsigned_at}
use Rattle.wasm_base.specs.Outcome.{Outcome, ◌>>=◌}
use Rattle.wasm_base.specs.Owned.{UnlessMemory, MeansAs, GivesUnlessMemory, InTurn, AfterCount, ListOf, in_turn, list_at}
use Rattle.wasm_base.specs.Window.{Place}
use Rattle.wasm_base.specs.declared.error.Error.{Error}
use Rattle.wasm_base.specs.declared.fault.NumberKind.TheVariants.{VarU32}

module _ {A B : Type 0} (view : A → B) (reading : Place → Outcome B) where
  pub items_in_turn : (count : ℕ) (p : Place) (outcome : Outcome (List A)) → InTurn (ReadsAs view reading) count p outcome
      → in_turn reading count p ≡ outcome_map (map view) outcome
  items_in_turn zero p (Ok ([], q)) h = rw h.1 refl
  items_in_turn zero p (Ok (x ∷ items, q)) h = absurd (let e = h.0 in cc)
  items_in_turn zero p (Err e) h = absurd h
  items_in_turn (suc count) p (Ok ([], q)) h = absurd h
  items_in_turn (suc count) p (Ok (x ∷ items, q)) h = rw (h.1, items_in_turn count h.0 (Ok (items, q)) h.2) refl
  items_in_turn (suc count) p (Err e) (inl h) = rw h refl
  items_in_turn (suc count) p (Err e) (inr h) = rw (h.2, items_in_turn count h.1 (Err e) h.3) refl

  after_count : (count : Outcome ℕ) (outcome : Outcome (List A)) → AfterCount (ReadsAs view reading) count outcome
      → (count >>= λ n. in_turn reading n.0 n.1) ≡ outcome_map (map view) outcome
  after_count (Ok n) outcome h = items_in_turn n.0 n.1 outcome h
  after_count (Err e) outcome h = rw h refl

  pub list_is : (p : Place) (outcome : Outcome (List A)) → ListOf (ReadsAs view reading) p outcome → list_at reading p
      ≡ outcome_map (map view) outcome
  list_is p outcome h = after_count (unsigned_at VarU32 p) outcome h

  -- A list that was read is that of the function, by what counts of its items.
  pub gives_list : {V : Type 0} (items : V → List A) (result : Result V Error) (p q : Place)
      → MeansAs items (UnlessMemory (ListOf (ReadsAs view reading))) p result q
      → GivesUnlessMemory (λ list. map view (items list)) result q (list_at reading p)
  gives_list items (Ok list) p q h = list_is p (Ok (items list, q)) h
  gives_list items (Err e) p q (inl none) = inl none
  gives_list items (Err e) p q (inr h) = inr (list_is p _ h)

map_all : {A : Type 0} (xs : List A) → map (λ x. x) xs ≡ xs
map_all [] = refl
map_all (x ∷ xs) = ap (λ rest. x ∷ rest) (map_all xs)

-- Like `gives_list`, where all of an item counts.
pub gives_whole_list : {A V : Type 0} (reading : Place → Outcome A) (items : V → List A) (result : Result V Error) (p q : Place)
    → MeansAs items (UnlessMemory (ListOf (ReadsAs (λ x. x) reading))) p result q → GivesUnlessMemory items result q (list_at reading p)
gives_whole_list reading items (Ok list) p q h = list_is (λ x. x) reading p (Ok (items list, q)) h
    ∙ ap (λ xs. Ok (xs, q)) (map_all (items list))
gives_whole_list reading items (Err e) p q (inl none) = inl none
gives_whole_list reading items (Err e) p q (inr h) = inr (list_is (λ x. x) reading p (Err _) h)
