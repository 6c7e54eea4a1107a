-- What words choose.
use Rattle.std.proofs.Common.{◌≡◌, ◌∙◌, ◌+◌, ◌<◌, ℕ, List, [], ◌∷◌, ◌++◌, ap, sym, subst₂, map, take}
use Rattle.std.proofs.Common.{length, get_or}
use Rattle.std.proofs.lemmas.List.{map-append, take_more}
use Rattle.wasm_commands.specs.Choices.{Chooses, ChooseInTurn}
use Rattle.wasm_dumper.specs.declared.events.Only.{Only}

choose_more : (words : List (List ℕ)) (only : List Only) (word : List ℕ) (choice : Only) → ChooseInTurn words only → Chooses word choice
    → ChooseInTurn (words ++ word ∷ []) (only ++ choice ∷ [])
choose_more [] [] word choice all one = (one, tt)
choose_more [] (other ∷ only) word choice all one = absurd all
choose_more (first ∷ words) [] word choice all one = absurd all
choose_more (first ∷ words) (other ∷ only) word choice all one = (all.0, choose_more words only word choice all.1 one)

-- one more word has its choice
pub choose_next : {X : Type 0} (text : X → List ℕ) (words : List X) (i : ℕ) (word : X) (only more : List Only) (choice : Only)
    → i < length words → word ≡ get_or words i word → ChooseInTurn (map text (take i words)) only → Chooses (text word) choice
    → more ≡ only ++ choice ∷ [] → ChooseInTurn (map text (take (i + 1) words)) more
choose_next text words i word only more choice less is all one e =
    let next = take_more words i word less ∙ ap (λ x. take i words ++ x ∷ []) (sym is) in
    subst₂ ChooseInTurn (sym (ap (map text) next ∙ map-append text (take i words) (word ∷ []))) (sym e)
    (choose_more (map text (take i words)) only (text word) choice all one)
