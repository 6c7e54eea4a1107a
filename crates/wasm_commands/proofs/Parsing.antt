-- Arguments that were read before others.
use Rattle.std.proofs.Common.{◌≡◌, ℕ, ◌-◌, ◌≤◌, ◌∷◌, ◌++◌, [], List, length, take, drop, take_all, get_or, map, Result}
use Rattle.std.proofs.Common.{Ok, Err, string_bytes, String, Global, le_refl, arith, refl, sym, ap, ◌∙◌}
use Rattle.std.proofs.lemmas.List.{map-append}
use Rattle.wasm_commands.specs.ArgumentLists.{Read, Wrong, arguments_of, with_first}
use Rattle.wasm_commands.specs.Parsing.{read_of}
use Rattle.wasm_commands.specs.declared.arguments.Argument.{Argument}
use Rattle.wasm_commands.specs.declared.options.Verb.{Verb}

abbrev pub after_some : List Read → Result (List Read) Wrong → Result (List Read) Wrong
after_some reads (Ok more) = Ok (reads ++ more)
after_some reads (Err wrong) = Err wrong

-- one more that was read
pub after_one_more : (reads : List Read) (read : Read) (rest : Result (List Read) Wrong)
    → after_some reads (with_first read rest) ≡ after_some (reads ++ read ∷ []) rest
after_one_more reads read (Ok more) = ap Ok (append_assoc_of reads read more)
  where
    append_assoc_of : (xs : List Read) (x : Read) (ys : List Read) → xs ++ x ∷ ys ≡ (xs ++ x ∷ []) ++ ys
    append_assoc_of [] x ys = refl
    append_assoc_of (y ∷ xs) x ys = ap (λ (l : List Read). y ∷ l) (append_assoc_of xs x ys)
after_one_more reads read (Err wrong) = refl

-- a step along the arguments
pub after_step : (reads : List Read) (read : Read) (all words after : Result (List Read) Wrong) → all ≡ after_some reads words
    → words ≡ with_first read after → all ≡ after_some (reads ++ read ∷ []) after
after_step reads read all words after so_far step = so_far ∙ (ap (after_some reads) step ∙ after_one_more reads read after)

-- a list that is not empty is its first element and the rest
pub front_of : {S : Type 0} (rest : List S) (first : S) → first ≡ get_or rest 0 first → 1 ≤ length rest
    → rest ≡ first ∷ take (length rest - 1) (drop 1 rest)
front_of [] first is some = absurd (omega (arith, some))
front_of (x ∷ xs) first is some =
    let one : length (x ∷ xs) - 1 ≡ length xs = omega arith in
    rw (is, one, take_all (length xs) xs (le_refl (length xs))) refl

-- what is read of the arguments when an argument was read from the front of the rest
module _ (verb : Verb) (all rest after : List (String Global)) (word : String Global) (text : List ℕ) (reads : List Argument)
    (read : Argument)
    (so_far : arguments_of verb (map string_bytes all) ≡ after_some (map read_of reads) (arguments_of verb (map string_bytes rest)))
    (is : word ≡ get_or rest 0 word) (some : 1 ≤ length rest) (text_is : text ≡ string_bytes word)
    (step : arguments_of verb (text ∷ map string_bytes (take (length rest - 1) (drop 1 rest)))
    ≡ with_first (read_of read) (arguments_of verb (map string_bytes after))) where
  in_front : arguments_of verb (map string_bytes rest) ≡ with_first (read_of read) (arguments_of verb (map string_bytes after))
  in_front = ap (λ (words : List (String Global)). arguments_of verb (map string_bytes words)) (front_of rest word is some)
      ∙ (ap (λ (one : List ℕ). arguments_of verb (one ∷ map string_bytes (take (length rest - 1) (drop 1 rest)))) (sym text_is) ∙ step)

  pub stepped : (new : List Argument) → new ≡ reads ++ read ∷ []
      → arguments_of verb (map string_bytes all) ≡ after_some (map read_of new) (arguments_of verb (map string_bytes after))
  stepped new is_new = after_step (map read_of reads) (read_of read) _ _ _ so_far in_front
      ∙ ap (λ (found : List Read). after_some found (arguments_of verb (map string_bytes after)))
      (sym (ap (map read_of) is_new ∙ map-append read_of reads (read ∷ [])))
