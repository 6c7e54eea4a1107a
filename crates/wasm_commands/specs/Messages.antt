-- What the program says on standard error.
use Rattle.std.specs.Prelude.{ℕ, Bool, true, false, ◌&&◌, ◌||◌, List, [], ◌∷◌, ◌++◌, codes, bytes_eq, nat_le}
use Rattle.std.specs.Prelude.{Option, Some, None, is_some}
use Rattle.std.specs.Prelude.{if◌then◌else◌}
use Rattle.std.specs.declared.io.ErrorKind.TheVariants.{Other}
use Rattle.wasm_base.specs.FaultAt.{FaultAt}
use Rattle.wasm_base.specs.Message.{message_of, number_text}
use Rattle.wasm_grammar.specs.Ids.{id_named}
use Rattle.wasm_io.specs.Calls.{device_of}
use Rattle.wasm_io.specs.Offsets.{offset_text}
use Rattle.wasm_io.specs.declared.digits.Base.TheVariants.{Hexadecimal}
use Rattle.wasm_io.specs.Messages.{Says}
use Rattle.wasm_io.specs.declared.devices.sink.Sink.{Ghosts as SinkOf}
use Rattle.wasm_io.specs.declared.devices.ListError.{ListError}
use Rattle.wasm_io.specs.declared.devices.ListError.TheVariants.{Input, Output, Memory}
use Rattle.wasm_commands.specs.Reasons.{reason_of, reason_of_kind}
use Rattle.wasm_commands.specs.declared.arguments.Refusal.{Refusal}
use Rattle.wasm_commands.specs.declared.arguments.Refusal.TheVariants.{UnknownOption, NoValue, UnwantedValue}
use Rattle.wasm_commands.specs.declared.messages.Causes.{Causes}
use Rattle.wasm_commands.specs.declared.messages.Complaint.{Complaint}
use Rattle.wasm_commands.specs.declared.messages.Complaint.TheVariants as complaint
use Rattle.wasm_commands.specs.declared.options.Verb.{Verb}
use Rattle.wasm_commands.specs.declared.options.Verb.TheVariants as verb
use Rattle.wasm_commands.specs.declared.reasons.Cause.{Cause}

-- This was said on a device.
abbrev pub SaysTo : {E : Type 0} → SinkOf E → (old new : E) (text : List ℕ) → Type 0
SaysTo sinks old new text = Says (device_of sinks.taken sinks.has_failed old new) text

-- the name of an input in messages
abbrev pub name_shown : List ℕ → List ℕ
name_shown name = if bytes_eq name (codes "-") then codes "standard input" else name

-- why a device failed, if it said so
abbrev pub reason_if_any : Option Cause → List ℕ
reason_if_any (Some cause) = reason_of cause
reason_if_any None = reason_of_kind Other

-- why a file can't be used
abbrev pub file_text : (name reason : List ℕ) → List ℕ
file_text name reason = codes "pulleynavy: " ++ (name ++ (codes ": " ++ (reason ++ codes "\n")))

-- | the messages of `pulleynavy`: why a file or device failed, and what is wrong with arguments [`file_text`,
--   `complaint_text`]
-- why a run over the input with this name failed
abbrev pub failure_text : (name : List ℕ) → ListError → Causes → List ℕ
failure_text name Input causes = file_text (name_shown name) (reason_if_any causes.input)
failure_text name Output causes = file_text (codes "standard output") (reason_if_any causes.output)
failure_text name Memory causes = codes "pulleynavy: out of memory\n"

-- a fault of a file, by its parts
abbrev pub fault_line : (name offset message after : List ℕ) → List ℕ
fault_line name offset message after = codes "pulleynavy: " ++ (name ++ (codes ": " ++ (offset ++ (codes ": "
    ++ (message ++ (after ++ codes "\n"))))))

-- the fault at which a file stops: its offset in hexadecimal, its message and its number
abbrev pub fault_text : (name : List ℕ) → FaultAt → List ℕ
fault_text name f =
    fault_line (name_shown name) (offset_text Hexadecimal f.offset) (message_of f.fault) (number_text f.number)

abbrev pub command_text : Verb → List ℕ
command_text verb.List = codes "pulleynavy list"
command_text verb.Dump = codes "pulleynavy dump"
command_text verb.Check = codes "pulleynavy check"
command_text verb.Strip = codes "pulleynavy strip"
command_text verb.Extract = codes "pulleynavy extract"
command_text verb.Add = codes "pulleynavy add"
command_text verb.Producers = codes "pulleynavy producers"

-- the values that an option takes
abbrev pub values_of : (option : List ℕ) → List ℕ
values_of option =
    if bytes_eq option (codes "--color") then codes "always, never or auto"
    else if bytes_eq option (codes "--section") then
    codes "an id, a name of the standard, as import, or the name of a custom section"
    else if bytes_eq option (codes "--keep") then codes "the name of a custom section"
    else if bytes_eq option (codes "--only") then codes "the name of a custom section"
    else if bytes_eq option (codes "--index") then codes "a number from 1 on"
    else if bytes_eq option (codes "--set") then
    codes "FIELD=NAME[:VERSION], and FIELD is language, processed-by or sdk"
    else codes "the name of a file"

-- whether the first byte is a decimal digit, as that of an id is
abbrev pub begins_with_digit : List ℕ → Bool
begins_with_digit [] = false
begins_with_digit (b ∷ more) = nat_le 48 b && nat_le b 57

abbrev pub hint_unless : (is_known : Bool) → List ℕ
hint_unless true = []
hint_unless false = codes "; the standard's are custom, type, import, function, table, memory, tag, global, export,"
    ++ codes " start, element, datacount, code and data"

-- what follows a word that chose no section: which names the standard has, unless it is one of these or a number
abbrev pub hint_for : Verb → (word : List ℕ) → List ℕ
hint_for verb.Dump word = hint_unless (is_some (id_named word) || begins_with_digit word)
hint_for other word = []

-- a section that a command did not find in a file
abbrev pub missing_text : Verb → (name word : List ℕ) → List ℕ
missing_text verb name word = command_text verb ++ (codes ": " ++ (name_shown name ++ (codes ": no section '" ++ (word
    ++ (codes "'" ++ (hint_for verb word ++ codes "\n"))))))

-- what is wrong with a word, and where to look
abbrev pub about_word : Verb → (before word after : List ℕ) → List ℕ
about_word verb before word after = command_text verb ++ (codes ": " ++ (before ++ (word ++ (after
    ++ (codes "\nTry '" ++ (command_text verb ++ codes " --help'.\n"))))))

-- an option that needs a value: which ones it takes
abbrev pub no_value_text : Verb → (option : List ℕ) → List ℕ
no_value_text verb option =
    about_word verb (codes "option '") option (codes "' needs a value: " ++ values_of option)

-- a value that an option does not take: which ones it takes
abbrev pub wrong_value_text : Verb → (option value : List ℕ) → List ℕ
wrong_value_text verb option value = command_text verb ++ (codes ": wrong value '" ++ (value ++ (codes "' of option '"
    ++ (option ++ (codes "': it takes " ++ (values_of option ++ codes "\n"))))))

-- what is wrong with an option
abbrev pub refusal_text : Verb → Refusal → List ℕ
refusal_text verb (UnknownOption word) = about_word verb (codes "unknown option '") word.now (codes "'")
refusal_text verb (NoValue word) = no_value_text verb word.now
refusal_text verb (UnwantedValue word) = about_word verb (codes "option '") word.now (codes "' takes no value")

abbrev pub unknown_command_text : (word : List ℕ) → List ℕ
unknown_command_text word = codes "pulleynavy: unknown command '" ++ (word ++ codes "'\nTry 'pulleynavy --help'.\n")

abbrev pub unknown_option_text : (word : List ℕ) → List ℕ
unknown_option_text word = codes "pulleynavy: unknown option '" ++ (word ++ codes "'\nTry 'pulleynavy --help'.\n")

abbrev pub no_command_text : List ℕ
no_command_text = codes "usage: pulleynavy COMMAND [OPTION]... [FILE]...\nTry 'pulleynavy --help'.\n"

-- a file that would have to be read twice
abbrev pub names_text : (name : List ℕ) → List ℕ
names_text name = codes "pulleynavy dump: --names reads each file twice, and " ++ (name_shown name
    ++ codes " can't be: name regular files\n")

-- standard input, which more than one operand of `add` names
abbrev pub input_twice_text : List ℕ
input_twice_text = about_word verb.Add (codes "'") (codes "-") (codes "' can be read only once")

-- a module that `strip` is to write to a terminal
abbrev pub terminal_text : List ℕ
terminal_text = codes "pulleynavy strip: the output is a terminal: name a file with -o OUT, or redirect the output\n"

-- what is wrong with the arguments
abbrev pub complaint_text : Complaint → List ℕ
complaint_text (complaint.Argument verb refusal) = refusal_text verb refusal
complaint_text (complaint.Excluded verb first second) = command_text verb ++ (codes ": options '" ++ (first.now
    ++ (codes "' and '" ++ (second.now ++ codes "' exclude each other\n"))))
complaint_text (complaint.WrongValue verb option value) = wrong_value_text verb option.now value.now
complaint_text (complaint.Extra verb word) = about_word verb (codes "unexpected argument '") word.now (codes "'")
complaint_text (complaint.Few verb words) = about_word verb (codes "needs ") words.now []
complaint_text (complaint.NoData word) = about_word verb.Add (codes "'") word.now (codes "' is not NAME=DATA")
complaint_text (complaint.TooLarge verb word) =
    command_text verb ++ (codes ": section '" ++ (word.now ++ codes "' is too large\n"))
complaint_text (complaint.UnknownCommand word) = unknown_command_text word.now
complaint_text (complaint.UnknownOption word) = unknown_option_text word.now
complaint_text complaint.NoCommand = no_command_text
complaint_text (complaint.NamesOf name) = names_text name.now
complaint_text complaint.InputTwice = input_twice_text
complaint_text complaint.Terminal = terminal_text
complaint_text complaint.NotUtf8 = codes "pulleynavy: an argument is not valid UTF-8\n"
