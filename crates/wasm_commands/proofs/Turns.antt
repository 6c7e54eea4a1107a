-- Files or words that are taken in turn.
use Rattle.std.proofs.Common.{◌≡◌, ◌∙◌, ℕ, ◌+◌, ◌<◌, List, [], ◌∷◌, ◌++◌, Result, ap, sym, refl, arith, max, subst, map}
use Rattle.std.proofs.Common.{take, length, get_or}
use Rattle.std.proofs.lemmas.List.{map-append, take_more}
use Rattle.wasm_commands.specs.Runs.{InTurn, status_in}

module _ {R : Type 0} (one : (name : List ℕ) → Result (Unit {0}) ℕ → (old new : R) → Type 0) (result : Result (Unit {0}) ℕ)
    (later new : R) where
  one_more : (name : List ℕ) → one name result later new → (names : List (List ℕ)) (old : R) (m : ℕ) → InTurn one names m old later
      → InTurn one (names ++ name ∷ []) (max m (status_in result)) old new
  one_more name does [] old m (none, same) = record {
    result = result;
    rest = 0;
    middle = new;
    does_first = subst (λ (r : R). one name result r new) same does;
    does_later = (refl, refl);
    greatest = omega (arith, none);
  }
  one_more name does (first ∷ names) old m both = record {
    result = both.result;
    rest = max both.rest (status_in result);
    middle = both.middle;
    does_first = both.does_first;
    does_later = one_more name does names both.middle both.rest both.does_later;
    greatest = omega (arith, both.greatest);
  }

  -- one more of a list of files
  pub next_in_turn : {X : Type 0} (text : X → List ℕ) (files : List X) (i : ℕ) (file : X) (old : R) (m : ℕ) → i < length files
      → file ≡ get_or files i file → one (text file) result later new → InTurn one (map text (take i files)) m old later
      → InTurn one (map text (take (i + 1) files)) (max m (status_in result)) old new
  next_in_turn text files i file old m less is does all =
      let next = take_more files i file less ∙ ap (λ x. take i files ++ x ∷ []) (sym is) in
      let names = ap (map text) next ∙ map-append text (take i files) (file ∷ []) in
      subst (λ (l : List (List ℕ)). InTurn one l (max m (status_in result)) old new) (sym names)
      (one_more (text file) does (map text (take i files)) old m all)
