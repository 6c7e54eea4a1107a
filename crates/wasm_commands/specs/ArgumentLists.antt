-- How the arguments of a command are read: options and operands in any order, as GNU programs read them.
use Rattle.std.specs.Prelude.{ℕ, Bool, true, false, ◌==◌, ◌&&◌, List, [], ◌∷◌, codes, bytes_eq, drop, map, nat_eq}
use Rattle.std.specs.Prelude.{nat_lt}
use Rattle.std.specs.Prelude.{length, flat_map, Option, Some, None, Result, Ok, Err, if◌then◌else◌}
use Rattle.std.specs.List.{after_first, before_first, list_any, position_or_len}
use Rattle.wasm_commands.specs.Options.{accepts_option, is_same, option_named, takes_of}
use Rattle.wasm_commands.specs.declared.options.Flag.{Flag}
use Rattle.wasm_commands.specs.declared.options.Takes.{Takes}
use Rattle.wasm_commands.specs.declared.options.Takes.TheVariants.{Nothing, Value, Attached}
use Rattle.wasm_commands.specs.declared.options.Verb.{Verb}

-- an argument that was read: an option, with its value if it has one, or another one, such as a file
pub data Read : Type 0 where
  option : Flag → (value : Option (List ℕ)) → Read
  operand : List ℕ → Read

-- what is wrong with an argument
pub data Wrong : Type 0 where
  unknown_option : List ℕ → Wrong
  no_value : List ℕ → Wrong
  unwanted_value : List ℕ → Wrong

-- whether an argument is an option: a dash, and more
abbrev pub is_option : List ℕ → Bool
is_option [] = false
is_option (first ∷ []) = false
is_option (first ∷ (second ∷ more)) = nat_eq first 45

-- whether an argument is a long option: two dashes
abbrev pub is_long : List ℕ → Bool
is_long [] = false
is_long (first ∷ []) = false
is_long (first ∷ (second ∷ more)) = nat_eq first 45 && nat_eq second 45

abbrev pub is_equals : ℕ → Bool
is_equals b = b == 61

-- whether an argument is a short option with its value attached: `-o`, the only one that takes a value, and more
abbrev pub is_joined : List ℕ → Bool
is_joined [] = false
is_joined (first ∷ []) = false
is_joined (first ∷ (second ∷ [])) = false
is_joined (first ∷ (second ∷ (third ∷ more))) = nat_eq first 45 && nat_eq second 111

-- the name of an option
abbrev pub name_of : List ℕ → List ℕ
name_of word =
    if is_long word then before_first is_equals word else if is_joined word then codes "-o" else word

-- the value attached to it, which is after the first `=` of a long option, and after the letter of a short one
abbrev pub attached_of : List ℕ → Option (List ℕ)
attached_of word =
    if is_long word
    then (if nat_lt (position_or_len is_equals word) (length word) then Some (after_first is_equals word) else None)
    else if is_joined word then Some (drop 2 word) else None

-- An option that was read, by the value that is attached to it, and the argument after it; and whether that is its
-- value.
abbrev pub read_value : Takes → Flag → (name : List ℕ) → (value next : Option (List ℕ)) → Result (Read × Bool) Wrong
read_value Nothing flag name None next = Ok (option flag None, false)
read_value Nothing flag name (Some value) next = Err (unwanted_value name)
read_value Attached flag name value next = Ok (option flag value, false)
read_value Value flag name (Some value) next = Ok (option flag (Some value), false)
read_value Value flag name None (Some value) = Ok (option flag (Some value), true)
read_value Value flag name None None = Err (no_value name)

-- an option of a command, if it has this one
abbrev pub read_flag : Verb → Option Flag → (word : List ℕ) (next : Option (List ℕ)) → Result (Read × Bool) Wrong
read_flag verb None word next = Err (unknown_option word)
read_flag verb (Some flag) word next =
    if accepts_option verb flag then read_value (takes_of flag) flag (name_of word) (attached_of word) next
    else Err (unknown_option word)

-- an argument, by the one after it
abbrev pub read_one : Verb → (word : List ℕ) (next : Option (List ℕ)) → Result (Read × Bool) Wrong
read_one verb word next =
    if is_option word then read_flag verb (option_named (name_of word)) word next else Ok (operand word, false)

abbrev pub with_first : Read → Result (List Read) Wrong → Result (List Read) Wrong
with_first read (Ok reads) = Ok (read ∷ reads)
with_first read (Err wrong) = Err wrong

-- An argument, and those after it, or after its value.
abbrev pub joined : Result (Read × Bool) Wrong → (rest later : Result (List Read) Wrong) → Result (List Read) Wrong
joined (Ok (read, false)) rest later = with_first read rest
joined (Ok (read, true)) rest later = with_first read later
joined (Err wrong) rest later = Err wrong

-- whether an argument ends the options
abbrev pub is_last_option : List ℕ → Bool
is_last_option word = bytes_eq word (codes "--")

-- | what the arguments of a command are read as, or what is wrong with the first one that is wrong [`read_one`,
--   `has_option`, `last_value`, `values_in`, `operands_in`] <GNU Coding Standards, Command-Line Interfaces>
-- what the arguments of a command are read as, or what is wrong with the first one that is wrong; after `--` all are
-- operands
abbrev pub arguments_of : Verb → List (List ℕ) → Result (List Read) Wrong
arguments_of verb [] = Ok []
arguments_of verb (word ∷ []) =
    if is_last_option word then Ok [] else joined (read_one verb word None) (Ok []) (Ok [])
arguments_of verb (word ∷ (next ∷ more)) =
    if is_last_option word then Ok (map operand (next ∷ more))
    else joined (read_one verb word (Some next)) (arguments_of verb (next ∷ more)) (arguments_of verb more)

-- ---- what is asked of arguments that were read

-- whether an option is among them
abbrev pub is_flag : Flag → Read → Bool
is_flag flag (option one value) = is_same flag one
is_flag flag (operand word) = false

abbrev pub has_option : Flag → List Read → Bool
has_option flag reads = list_any (λ read. is_flag flag read) reads

abbrev pub value_in : Flag → Read → Option (Option (List ℕ))
value_in flag (option one value) = if is_same flag one then Some value else None
value_in flag (operand word) = None

abbrev pub later_or : {A : Type 0} → Option A → Option A → Option A
later_or earlier (Some later) = Some later
later_or earlier None = earlier

-- the value of the last option of this kind
abbrev pub last_value : Flag → (earlier : Option (Option (List ℕ))) → List Read → Option (Option (List ℕ))
last_value flag earlier [] = earlier
last_value flag earlier (read ∷ reads) = last_value flag (later_or earlier (value_in flag read)) reads

abbrev pub value_list : Option (Option (List ℕ)) → List (List ℕ)
value_list (Some (Some value)) = value ∷ []
value_list (Some None) = []
value_list None = []

-- the values of all options of this kind
abbrev pub values_in : Flag → List Read → List (List ℕ)
values_in flag reads = flat_map (λ read. value_list (value_in flag read)) reads

abbrev pub operand_list : Read → List (List ℕ)
operand_list (option flag value) = []
operand_list (operand word) = word ∷ []

-- the other arguments
abbrev pub operands_in : List Read → List (List ℕ)
operands_in reads = flat_map operand_list reads
