-- What the first word of the program says.
use Rattle.std.proofs.Common.{◌≡◌, ℕ, ◌-◌, ◌<◌, ◌≤◌, [], ◌∷◌, List, length, take, drop, get_or, map, Option, string_bytes, String}
use Rattle.std.proofs.Common.{Global, subst, sym, false, codes, bytes_eq, Result, refl, arith}
use Rattle.std.proofs.lemmas.Bool.{false_from_ne_true}
use Rattle.std.proofs.lemmas.Slice.Eq.{bytes_eq-Decides}
use Rattle.wasm_commands.proofs.Parsing.{front_of}
use Rattle.wasm_commands.specs.Commands.{PrintsHelp, PrintsTopic, RunsOther, RunsVerb, RunsWords}
use Rattle.wasm_commands.specs.Options.{verb_named}
use Rattle.wasm_commands.specs.Messages.{no_command_text, refusal_text}
use Rattle.wasm_commands.specs.Parsing.{wrong_of}
use Rattle.wasm_commands.specs.Refusals.{unknown_text, wrong_text}
use Rattle.wasm_commands.specs.declared.arguments.Refusal.{Refusal}
use Rattle.wasm_commands.specs.declared.arguments.Refusal.TheVariants.{UnknownOption, NoValue, UnwantedValue}
use Rattle.wasm_commands.specs.Runs.{Run, Stops}
use Rattle.wasm_commands.specs.declared.options.Verb.{Verb}
use Rattle.wasm_commands.specs.declared.system.System.{Ghosts as SystemOf}
use Rattle.wasm_io.specs.declared.devices.sink.Sink.{Ghosts as SinkOf}
use Rattle.wasm_io.specs.declared.devices.source.Source.{Ghosts as SourceOf}

-- what the first word says is done
module _ (words : List (String Global)) (word : String Global) (text : List ℕ) (is : word ≡ get_or words 0 word)
    (some : 1 ≤ length words) (text_is : text ≡ string_bytes word) where
  abbrev later : List (List ℕ)
  later = map string_bytes (take (length words - 1) (drop 1 words))

  pub words_run : {S I O : Type 0} (calls : SystemOf S I O) (sources : SourceOf I) (sinks : SinkOf O) (verb : Option Verb)
      (result : Result (Unit {0}) ℕ) (old new : Run S) → verb_named text ≡ verb
      → RunsVerb calls sources sinks verb text later result old new
      → RunsWords calls sources sinks (map string_bytes words) result old new
  words_run calls sources sinks verb result old new named runs =
      subst (λ (ws : List (String Global)). RunsWords calls sources sinks (map string_bytes ws) result old new)
      (sym (front_of words word is some))
      (subst (λ (t : List ℕ). RunsVerb calls sources sinks (verb_named t) t later result old new) text_is
      (subst (λ (v : Option Verb). RunsVerb calls sources sinks v text later result old new) (sym named) runs))

  -- a word after `help`
  pub topic_run : {S : Type 0} (verb : Option Verb) (result : Result (Unit {0}) ℕ) (old new : Run S) → verb_named text ≡ verb
      → PrintsTopic verb text result old new → PrintsHelp (map string_bytes words) result old new
  topic_run verb result old new named runs =
      subst (λ (ws : List (String Global)). PrintsHelp (map string_bytes ws) result old new) (sym (front_of words word is some))
      (subst (λ (t : List ℕ). PrintsTopic (verb_named t) t result old new) text_is
      (subst (λ (v : Option Verb). PrintsTopic v text result old new) (sym named) runs))

bytes_differ : (xs ys : List ℕ) → (xs ≡ ys → ⊥) → bytes_eq xs ys ≡ false
bytes_differ xs ys n = false_from_ne_true (bytes_eq xs ys) (λ e. n ((bytes_eq-Decides xs ys).0 e))

-- a word that asks for nothing
pub other_refused : {S : Type 0} (word : List ℕ) (more : List (List ℕ)) (result : Result (Unit {0}) ℕ) (old new : Run S)
    → (word ≡ codes "help" → ⊥) → (word ≡ codes "--help" → ⊥) → (word ≡ codes "-h" → ⊥) → (word ≡ codes "--version" → ⊥)
    → (word ≡ codes "-V" → ⊥) → Stops 2 (unknown_text word) result old new → RunsOther word more result old new
other_refused word more result old new a b c d e stops =
    rw (
      bytes_differ word (codes "help") a,
      bytes_differ word (codes "--help") b,
      bytes_differ word (codes "-h") c,
      bytes_differ word (codes "--version") d,
      bytes_differ word (codes "-V") e,
    ) stops

-- the words for a wrong option
pub wrong_is : (verb : Verb) (refusal : Refusal) → wrong_text verb (wrong_of refusal) ≡ refusal_text verb refusal
wrong_is verb (UnknownOption word) = refl
wrong_is verb (NoValue word) = refl
wrong_is verb (UnwantedValue word) = refl

-- no word at all
pub none_run : {S I O : Type 0} (calls : SystemOf S I O) (sources : SourceOf I) (sinks : SinkOf O) (words : List (String Global))
    (result : Result (Unit {0}) ℕ) (old new : Run S) → length words < 1 → Stops 2 no_command_text result old new
    → RunsWords calls sources sinks (map string_bytes words) result old new
none_run calls sources sinks [] result old new none stops = stops
none_run calls sources sinks (word ∷ words) result old new none stops = absurd (omega (arith, none))
