-- Which arguments of the program are refused before anything is read, and what is said of them.
use Rattle.std.specs.Prelude.{ℕ, Bool, ◌||◌, List, codes, bytes_eq, if◌then◌else◌}
use Rattle.wasm_commands.specs.ArgumentLists.{Wrong, unknown_option, no_value, unwanted_value, is_option}
use Rattle.wasm_commands.specs.Messages.{about_word, no_value_text, unknown_command_text, unknown_option_text}
use Rattle.wasm_commands.specs.declared.options.Verb.{Verb}

-- what is said of the arguments of a command, if one is wrong
abbrev pub wrong_text : Verb → Wrong → List ℕ
wrong_text verb (unknown_option word) = about_word verb (codes "unknown option '") word (codes "'")
wrong_text verb (no_value word) = no_value_text verb word
wrong_text verb (unwanted_value word) = about_word verb (codes "option '") word (codes "' takes no value")

abbrev pub asks_for_help : (word : List ℕ) → Bool
asks_for_help word = bytes_eq word (codes "help") || (bytes_eq word (codes "--help") || bytes_eq word (codes "-h"))

abbrev pub asks_for_version : (word : List ℕ) → Bool
asks_for_version word = bytes_eq word (codes "--version") || bytes_eq word (codes "-V")

-- what is said of a word that is neither a command nor one of these
abbrev pub unknown_text : (word : List ℕ) → List ℕ
unknown_text word = if is_option word then unknown_option_text word else unknown_command_text word
