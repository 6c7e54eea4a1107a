-- Lists whose elements are related in turn.
use Rattle.std.proofs.Common.{◌≡◌, ◌∙◌, ◌+◌, ◌<◌, ℕ, true, false, List, Ok, Err, Vec, Global, Bor, refl, [], ◌∷◌, ◌++◌, ap, sym, subst₂}
use Rattle.std.proofs.Common.{map, take, length, get_or}
use Rattle.std.proofs.lemmas.List.{map-append, map_more, take-map}
use Rattle.wasm_io.specs.declared.devices.source.Source.{Ghosts as SourceOf}
use Rattle.wasm_commands.specs.RewriteCommands.{AreAdditions, CannotLoad, EachInTurn, IsLoaded, TakesWords, is_asked_again, is_input}
use Rattle.wasm_commands.specs.RewriteCommands.{no_addition, no_data_text, parts_of}
use Rattle.wasm_commands.specs.Messages.{input_twice_text}
use Rattle.wasm_commands.specs.Rewrites.{Holds}
use Rattle.wasm_commands.specs.Runs.{Run, Tells}
use Rattle.wasm_commands.specs.declared.add.Addition.{Addition}
use Rattle.wasm_commands.specs.declared.system.System.{Ghosts as SystemOf}

each_more : {A B : Type 0} (R : A → B → Type 0) (xs : List A) (ys : List B) (x : A) (y : B) → EachInTurn R xs ys → R x y
    → EachInTurn R (xs ++ x ∷ []) (ys ++ y ∷ [])
each_more R [] [] x y all one = (one, tt)
each_more R [] (other ∷ ys) x y all one = absurd all
each_more R (first ∷ xs) [] x y all one = absurd all
each_more R (first ∷ xs) (other ∷ ys) x y all one = (all.0, each_more R xs ys x y all.1 one)

-- the elements up to the next one
pub up_to_next : {X A : Type 0} (f : X → A) (xs : List X) (i : ℕ) (x : X) → i < length xs → x ≡ get_or xs i x
    → map f (take (i + 1) xs) ≡ map f (take i xs) ++ f x ∷ []
up_to_next f xs i x less is = map_more f xs i x less ∙ ap (λ y. map f (take i xs) ++ f y ∷ []) (sym is)

pub begins_with_next : {X A : Type 0} (f : X → A) (xs : List X) (i : ℕ) (x : X) → i < length xs → x ≡ get_or xs i x
    → take (i + 1) (map f xs) ≡ map f (take i xs) ++ f x ∷ []
begins_with_next f xs i x less is = take-map f (i + 1) xs ∙ up_to_next f xs i x less is

-- one more element has its counterpart
pub each_next : {X A B : Type 0} (R : A → B → Type 0) (f : X → A) (xs : List X) (i : ℕ) (x : X) (ys new : List B) (y : B)
    → i < length xs → x ≡ get_or xs i x → EachInTurn R (map f (take i xs)) ys → R (f x) y → new ≡ ys ++ y ∷ []
    → EachInTurn R (map f (take (i + 1) xs)) new
each_next R f xs i x ys new y less is all one e = subst₂ (EachInTurn R) (sym (up_to_next f xs i x less is)) (sym e)
    (each_more R (map f (take i xs)) ys (f x) y all one)

-- the same for a list that is seen through a function
pub each_next_seen : {X Y A B : Type 0} (R : A → B → Type 0) (f : X → A) (g : Y → B) (xs : List X) (i : ℕ) (x : X)
    (ys new : List Y) (y : Y) → i < length xs → x ≡ get_or xs i x → EachInTurn R (map f (take i xs)) (map g ys) → R (f x) (g y)
    → new ≡ ys ++ y ∷ [] → EachInTurn R (map f (take (i + 1) xs)) (map g new)
each_next_seen R f g xs i x ys new y less is all one e =
    each_next R f xs i x (map g ys) (map g new) (g y) less is all one (ap (map g) e ∙ map-append g ys (y ∷ []))

-- the file of the next section could not be read
pub cannot_load : {S I O : Type 0} (calls : SystemOf S I O) (sources : SourceOf I)
    (additions : List Addition) (i : ℕ) (x : Addition) (loaded : List (List ℕ × List ℕ)) (status : ℕ) (old new : Run S)
    → i < length additions → x ≡ get_or additions i x
    → EachInTurn (IsLoaded calls sources old.system) (map parts_of (take i additions)) loaded
    → Holds calls sources x.file.now (Err status) old new
    → CannotLoad calls sources (map parts_of additions) status old new
cannot_load calls sources additions i x loaded status old new less is loads cannot = record {
  first = map parts_of (take i additions);
  next = parts_of x;
  count = i + 1;
  begins = begins_with_next parts_of additions i x less is;
  loaded = loaded;
  loads = loads;
  cannot = cannot;
}

-- the operands of `add`, by what was parsed of them
module _ {S : Type 0} (words : List (List ℕ)) (file : List ℕ) (status : ℕ) (old new : Run S) where
  pub no_data : (word : Bor (List ℕ)) → AreAdditions {A = Global} words (Err word) → status ≡ 2
      → Tells (no_data_text word.now) old new → TakesWords (no_addition words) words file (Err status) old new
  no_data word a is told = rw a (record { answers = ap Err is; tells = told })

  module _ (additions : Vec Addition Global) (a : AreAdditions words (Ok additions)) where
    pub asked_again : is_asked_again (is_input file) (map parts_of additions.items) ≡ true → status ≡ 2
        → Tells input_twice_text old new → TakesWords (no_addition words) words file (Err status) old new
    asked_again again is told = rw (a.0, ← a.1, again) (record { answers = ap Err is; tells = told })

    pub asked_once : (taken : Bor (List ℕ)) → taken.now ≡ file
        → is_asked_again (is_input file) (map parts_of additions.items) ≡ false
        → TakesWords (no_addition words) words file (Ok (additions, taken)) old old
    asked_once taken is once = rw (a.0, ← a.1, once) ((additions, taken), refl, refl, is, refl)
