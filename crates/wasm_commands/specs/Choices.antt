-- Which sections the values of `--section` choose.
use Rattle.std.specs.Prelude.{◌≡◌, ◌⊎◌, ℕ, ◌<◌, ◌^◌, List, [], ◌∷◌, Some, None}
use Rattle.std.specs.Str.Parse.{IsNumeral, digits_value, without_leading_plus}
use Rattle.wasm_grammar.specs.Ids.{id_named}
use Rattle.wasm_dumper.specs.declared.events.Only.{Only}
use Rattle.wasm_dumper.specs.declared.events.Only.TheVariants.{All, Parts, Id, Name}

-- whether a word is the number of an id: decimal digits, with an optional plus before them, of less than 256
abbrev pub IsNumber : List ℕ → Type 0
IsNumber word = IsNumeral 10 (without_leading_plus word) × (digits_value 10 (without_leading_plus word) < 2 ^ 8)

-- | which sections a value of `--section` chooses: by their id, else by their name in the standard, else custom
--   sections by theirs [`ChooseInTurn`; `wasm_grammar`: `Ids.id_named`] <Modules, Sections (the names and ids)>
-- These sections are those that a word chooses: by their id, else by their name in the standard, else custom sections
-- by theirs.
abbrev pub Chooses : (word : List ℕ) → Only → Type 0
Chooses word All = ⊥
Chooses word Parts = ⊥
Chooses word (Id id) = (IsNumber word × (id ≡ digits_value 10 (without_leading_plus word)))
    ⊎ ((¬ IsNumber word) × (id_named word ≡ Some id))
Chooses word (Name name) = (¬ IsNumber word) × (id_named word ≡ None) × (name.now ≡ word)

-- These sections are those that words choose, one for each, in the order of the words.
abbrev pub ChooseInTurn : (words : List (List ℕ)) → List Only → Type 0
ChooseInTurn [] [] = Unit {0}
ChooseInTurn [] (choice ∷ more) = ⊥
ChooseInTurn (word ∷ words) [] = ⊥
ChooseInTurn (word ∷ words) (choice ∷ more) = Chooses word choice × ChooseInTurn words more
