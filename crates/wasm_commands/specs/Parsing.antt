-- How the code reads arguments.
use Rattle.std.specs.Prelude.{◌≡◌, ℕ, ◌<◌, Bool, List, length, map, nat_lt, string_bytes, option_map, Option}
use Rattle.std.specs.Prelude.{Some, None, Result, Ok, Err, String, Vec, if◌then◌else◌}
use Rattle.std.specs.List.{after_first, before_first, position_or_len}
use Rattle.std.specs.Borrow.{Bor}
use Rattle.wasm_commands.specs.ArgumentLists.{Read, Wrong, option, operand, unknown_option, no_value, unwanted_value}
use Rattle.wasm_commands.specs.ArgumentLists.{arguments_of, is_equals, with_first}
use Rattle.wasm_commands.specs.declared.arguments.Argument.{Argument}
use Rattle.wasm_commands.specs.declared.arguments.Argument.TheVariants as argument
use Rattle.wasm_commands.specs.declared.arguments.Arguments.{Arguments}
use Rattle.wasm_commands.specs.declared.arguments.One.{One}
use Rattle.wasm_commands.specs.declared.arguments.Parts.{Parts}
use Rattle.wasm_commands.specs.declared.arguments.Refusal.{Refusal}
use Rattle.wasm_commands.specs.declared.arguments.Refusal.TheVariants as refusal
use Rattle.wasm_commands.specs.declared.arguments.Step.{Step}
use Rattle.wasm_commands.specs.declared.arguments.Step.TheVariants as step
use Rattle.wasm_commands.specs.declared.options.Verb.{Verb}

abbrev pub text_if_any : Option (Bor (List ℕ)) → Option (List ℕ)
text_if_any value = option_map (λ text. text.now) value

abbrev pub read_of : Argument → Read
read_of (argument.Option flag value) = option flag (text_if_any value)
read_of (argument.Operand word) = operand word.now

abbrev pub wrong_of : Refusal → Wrong
wrong_of (refusal.UnknownOption word) = unknown_option word.now
wrong_of (refusal.NoValue word) = no_value word.now
wrong_of (refusal.UnwantedValue word) = unwanted_value word.now

abbrev pub texts : List (Bor (List ℕ)) → List (List ℕ)
texts words = map (λ word. word.now) words

abbrev pub strings : {A : Type 0} → List (String A) → List (List ℕ)
strings words = map string_bytes words

-- These are the texts.
abbrev pub AreTexts : {A : Type 0} → List (List ℕ) → Vec (Bor (List ℕ)) A → Type 0
AreTexts words made = texts made.items ≡ words

-- The parts of an option with a value, if it has an `=`.
pub record IsSplit (parts : Parts) (word : List ℕ) : Type 0 where
  pub name : parts.name.now ≡ before_first is_equals word
  pub value : text_if_any parts.value
      ≡ (if nat_lt (position_or_len is_equals word) (length word) then Some (after_first is_equals word) else None)

-- what one argument was read as
abbrev pub one_of : Result One Refusal → Result (Read × Bool) Wrong
one_of (Ok one) = Ok (read_of one.argument, one.takes_next)
one_of (Err refusal) = Err (wrong_of refusal)

-- what all of them were read as
abbrev pub reads_of : Arguments → List Read
reads_of arguments = map read_of arguments.parsed.items

abbrev pub parsed_of : Result Arguments Refusal → Result (List Read) Wrong
parsed_of (Ok arguments) = Ok (reads_of arguments)
parsed_of (Err refusal) = Err (wrong_of refusal)

-- What is done with arguments: one is read, and these are left; all are operands; there are none; or one is refused.
abbrev pub Steps : Verb → (words : List (List ℕ)) → Step → Type 0
Steps verb words (step.Argument argument rest) =
    (arguments_of verb words ≡ with_first (read_of argument) (arguments_of verb (map string_bytes rest.now)))
    × (length rest.now < length words)
Steps verb words (step.Operands rest) = arguments_of verb words ≡ Ok (map operand (map string_bytes rest.now))
Steps verb words (step.Refused refusal) = arguments_of verb words ≡ Err (wrong_of refusal)
