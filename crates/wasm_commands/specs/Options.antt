-- The commands and their options.
use Rattle.std.specs.Prelude.{ℕ, Bool, true, false, List, codes, bytes_eq, nat_eq, Option, Some, None, if◌then◌else◌}
use Rattle.wasm_commands.specs.declared.options.Flag.{Flag}
use Rattle.wasm_commands.specs.declared.options.Flag.TheVariants.{Help, Version, Json, Names, Bytes, Hex, Color}
use Rattle.wasm_commands.specs.declared.options.Flag.TheVariants.{Section}
use Rattle.wasm_commands.specs.declared.options.Flag.TheVariants.{Quiet, KeepNames, Keep, Only, Debug, Output}
use Rattle.wasm_commands.specs.declared.options.Flag.TheVariants.{NoProgress}
use Rattle.wasm_commands.specs.declared.options.Flag.TheVariants.{Index, Replace, Set}
use Rattle.wasm_commands.specs.declared.options.Takes.{Takes}
use Rattle.wasm_commands.specs.declared.options.Takes.TheVariants.{Nothing, Value, Attached}
use Rattle.wasm_commands.specs.declared.options.Verb.{Verb}
use Rattle.wasm_commands.specs.declared.options.Verb.TheVariants as verb

-- the command with this name
abbrev pub verb_named : List ℕ → Option Verb
verb_named word =
    if bytes_eq word (codes "list") then Some verb.List
    else if bytes_eq word (codes "dump") then Some verb.Dump
    else if bytes_eq word (codes "check") then Some verb.Check
    else if bytes_eq word (codes "strip") then Some verb.Strip
    else if bytes_eq word (codes "extract") then Some verb.Extract
    else if bytes_eq word (codes "add") then Some verb.Add
    else if bytes_eq word (codes "producers") then Some verb.Producers
    else None

-- | the options of the commands of `pulleynavy`, and whether each takes a value [`verb_named`, `accepts_option`,
--   `takes_of`]
-- the option with this name
abbrev pub option_named : List ℕ → Option Flag
option_named word =
    if bytes_eq word (codes "--help") then Some Help
    else if bytes_eq word (codes "-h") then Some Help
    else if bytes_eq word (codes "--version") then Some Version
    else if bytes_eq word (codes "-V") then Some Version
    else if bytes_eq word (codes "--json") then Some Json
    else if bytes_eq word (codes "--names") then Some Names
    else if bytes_eq word (codes "--bytes") then Some Bytes
    else if bytes_eq word (codes "--hex") then Some Hex
    else if bytes_eq word (codes "--color") then Some Color
    else if bytes_eq word (codes "--section") then Some Section
    else if bytes_eq word (codes "--quiet") then Some Quiet
    else if bytes_eq word (codes "-q") then Some Quiet
    else if bytes_eq word (codes "--keep-names") then Some KeepNames
    else if bytes_eq word (codes "--keep") then Some Keep
    else if bytes_eq word (codes "--only") then Some Only
    else if bytes_eq word (codes "--debug") then Some Debug
    else if bytes_eq word (codes "--output") then Some Output
    else if bytes_eq word (codes "-o") then Some Output
    else if bytes_eq word (codes "--no-progress") then Some NoProgress
    else if bytes_eq word (codes "--index") then Some Index
    else if bytes_eq word (codes "--replace") then Some Replace
    else if bytes_eq word (codes "--set") then Some Set
    else None

-- whether a command shows parts
abbrev pub is_shown : Verb → Bool
is_shown verb.List = true
is_shown verb.Dump = true
is_shown other = false

abbrev pub is_dump : Verb → Bool
is_dump verb.Dump = true
is_dump other = false

abbrev pub is_check : Verb → Bool
is_check verb.Check = true
is_check other = false

abbrev pub is_strip : Verb → Bool
is_strip verb.Strip = true
is_strip other = false

abbrev pub is_extract : Verb → Bool
is_extract verb.Extract = true
is_extract other = false

abbrev pub is_add : Verb → Bool
is_add verb.Add = true
is_add other = false

abbrev pub is_producers : Verb → Bool
is_producers verb.Producers = true
is_producers other = false

-- whether a command writes a file in place of another
abbrev pub is_written : Verb → Bool
is_written verb.Strip = true
is_written verb.Extract = true
is_written verb.Add = true
is_written verb.Producers = true
is_written other = false

-- whether a command has an option
abbrev pub accepts_option : Verb → Flag → Bool
accepts_option verb Help = true
accepts_option verb Version = true
accepts_option verb NoProgress = true
accepts_option verb Json = is_shown verb
accepts_option verb Names = is_dump verb
accepts_option verb Bytes = is_dump verb
accepts_option verb Hex = is_dump verb
accepts_option verb Color = is_dump verb
accepts_option verb Section = is_dump verb
accepts_option verb Quiet = is_check verb
accepts_option verb KeepNames = is_strip verb
accepts_option verb Keep = is_strip verb
accepts_option verb Only = is_strip verb
accepts_option verb Debug = is_strip verb
accepts_option verb Output = is_written verb
accepts_option verb Index = is_extract verb
accepts_option verb Replace = is_add verb
accepts_option verb Set = is_producers verb

-- whether an option takes a value
abbrev pub takes_of : Flag → Takes
takes_of Section = Value
takes_of Keep = Value
takes_of Only = Value
takes_of Output = Value
takes_of Index = Value
takes_of Set = Value
takes_of Color = Attached
takes_of other = Nothing

-- whether two options are the same: by their places in the list of options
abbrev pub place_of : Flag → ℕ
place_of Help = 0
place_of Version = 1
place_of Json = 2
place_of Names = 3
place_of Bytes = 4
place_of Hex = 5
place_of Color = 6
place_of Section = 7
place_of Quiet = 8
place_of KeepNames = 9
place_of Keep = 10
place_of Only = 11
place_of Debug = 12
place_of Output = 13
place_of NoProgress = 14
place_of Index = 15
place_of Replace = 16
place_of Set = 17

abbrev pub is_same : Flag → Flag → Bool
is_same a b = nat_eq (place_of a) (place_of b)
