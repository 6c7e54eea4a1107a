-- What the commands that write a stream do, by their arguments.
use Rattle.std.specs.Prelude.{◌≡◌, ◌⊎◌, ℕ, ◌+◌, ◌<◌, ◌^◌, Bool, true, false, ◌==◌, ◌||◌, List, [], ◌∷◌, ◌++◌, codes}
use Rattle.std.specs.Prelude.{bytes_eq}
use Rattle.std.specs.Prelude.{All, length, nat_lt, Option, Some, None, is_some, map, take, Vec, Result, Ok, Err}
use Rattle.std.specs.Prelude.{if◌then◌else◌}
use Rattle.std.specs.Borrow.{Bor}
use Rattle.std.specs.List.{after_first, before_first, position_or_len}
use Rattle.std.specs.declared.alloc.Global.{Global}
use Rattle.std.specs.Str.Parse.{IsNumeral, digits_value, without_leading_plus}
use Rattle.wasm_base.specs.Window.{place}
use Rattle.wasm_base.specs.declared.error.Error.{Error}
use Rattle.wasm_custom.specs.Custom.{Custom}
use Rattle.wasm_io.specs.declared.devices.sink.Sink.{Ghosts as SinkOf}
use Rattle.wasm_io.specs.declared.devices.source.Source.{Ghosts as SourceOf}
use Rattle.wasm_edits.specs.Edited.{IsEdited}
use Rattle.wasm_edits.specs.Edits.{CanBeMade}
use Rattle.wasm_edits.specs.Encoded.{Fits}
use Rattle.wasm_edits.specs.Stripped.{EndsWithFault}
use Rattle.wasm_edits.specs.declared.edits.Edit.{Edit}
use Rattle.wasm_edits.specs.declared.edits.Edit.TheVariants as edit
use Rattle.wasm_edits.specs.declared.encoding.NewSection.{NewSection}
use Rattle.wasm_streams.specs.declared.turns.Ended.{Ended}
use Rattle.wasm_io.specs.declared.devices.ListError.{ListError}
use Rattle.wasm_edits.specs.declared.fates.Keep.{Keep}
use Rattle.wasm_commands.specs.ArgumentLists.{Read, has_option, is_equals, last_value, operands_in, values_in}
use Rattle.wasm_commands.specs.Finding.{FindsSection}
use Rattle.wasm_commands.specs.FirstNamed.{FindsFirst, ReplacesFirst}
use Rattle.wasm_commands.specs.Messages.{about_word, command_text, input_twice_text, missing_text, wrong_value_text}
use Rattle.wasm_commands.specs.Parsing.{texts}
use Rattle.wasm_commands.specs.Rewrites.{Changes, EditsTo, EndsRun, Finds, Gave, Holds, Opens, SparesTerminal}
use Rattle.wasm_commands.specs.Rewrites.{Route, WritesTo, route_from, target_in}
use Rattle.wasm_commands.specs.Runs.{Allots, IsSound, Makes, Run, RunsOut, Stops, StopsAtFault, Then}
use Rattle.wasm_commands.specs.declared.add.Addition.{Addition}
use Rattle.wasm_commands.specs.declared.add.Loaded.{Loaded}
use Rattle.wasm_commands.specs.declared.add.Operands.{Operands}
use Rattle.wasm_commands.specs.declared.extract.Wanted.{Wanted}
use Rattle.wasm_commands.specs.declared.options.Flag.TheVariants as option
use Rattle.wasm_commands.specs.declared.options.Verb.{Verb}
use Rattle.wasm_commands.specs.declared.options.Verb.TheVariants as verb
use Rattle.wasm_commands.specs.declared.rewriting.Original.{Original}
use Rattle.wasm_commands.specs.declared.producers.Setting.{Setting}
use Rattle.wasm_commands.specs.declared.system.System.{Ghosts as SystemOf}

-- an argument after those that a command takes
abbrev pub extra_text : Verb → (word : List ℕ) → List ℕ
extra_text verb word = about_word verb (codes "unexpected argument '") word (codes "'")

abbrev pub too_large_text : Verb → (name : List ℕ) → List ℕ
too_large_text verb name = command_text verb ++ (codes ": section '" ++ (name ++ codes "' is too large\n"))

-- A command takes this file.
abbrev pub IsFile : {S : Type 0} → (name : List ℕ) → Result (Bor (List ℕ)) ℕ → (old new : Run S) → Type 0
IsFile name result old new = (file : Bor (List ℕ)) × (result ≡ Ok file) × (file.now ≡ name) × (new ≡ old)

-- It takes at most one file, and without one standard input.
abbrev pub TakesOnly : {S : Type 0} → Verb → (operands : List (List ℕ)) → Result (Bor (List ℕ)) ℕ → (old new : Run S)
    → Type 0
TakesOnly verb [] = IsFile (codes "-")
TakesOnly verb (name ∷ []) = IsFile name
TakesOnly verb (name ∷ (extra ∷ more)) = Stops 2 (extra_text verb extra)

-- | the operand of a command that takes at most one file
-- The same, unless memory ran out before.
abbrev pub TakesFile : {S : Type 0} → Verb → (operands : List (List ℕ)) → Result (Bor (List ℕ)) ℕ → (old new : Run S)
    → Type 0
TakesFile verb operands = Then Allots (λ (allotted : Unit {0}). TakesOnly verb operands)

-- what `--debug` removes: the sections with debugging information
abbrev pub debug_patterns : (is_asked : Bool) → List (List ℕ)
debug_patterns true = codes ".debug_*" ∷ []
debug_patterns false = []

-- the patterns of the sections that `strip` removes: the values of `--only`, and that of `--debug`
abbrev pub removed_in : List Read → List (List ℕ)
removed_in reads = values_in option.Only reads ++ debug_patterns (has_option option.Debug reads)

-- These sections stay by the options of `strip`.
pub record IsKept (reads : List Read) (keep : Keep) : Type 0 where
  pub names : keep.names ≡ has_option option.KeepNames reads
  pub kept : texts keep.kept.now ≡ values_in option.Keep reads
  pub removed : texts keep.removed.now ≡ removed_in reads

-- the number that a word is: decimal digits, with an optional plus before them
abbrev pub number_in : (word : List ℕ) → ℕ
number_in word = digits_value 10 (without_leading_plus word)

-- a value that `--index` takes: a number from 1 on that fits 64 bits
abbrev pub IsIndex : (word : List ℕ) → Type 0
IsIndex word = IsNumeral 10 (without_leading_plus word) × (0 < number_in word) × (number_in word < 2 ^ 64)

-- The wanted section comes after this many others with its name, by `--index`; or the value of that is wrong.
abbrev pub Skips : (index : Option (Option (List ℕ))) → Option ℕ → Type 0
Skips None skips = skips ≡ Some 0
Skips (Some None) skips = skips ≡ Some 0
Skips (Some (Some word)) (Some skips) = IsIndex word × (number_in word ≡ skips + 1)
Skips (Some (Some word)) None = ¬ IsIndex word

-- the value of an option that has one
abbrev pub value_text : Option (Option (List ℕ)) → List ℕ
value_text (Some (Some word)) = word
value_text (Some None) = []
value_text None = []

-- ---- `add`

-- whether a word is `NAME=DATA`
abbrev pub is_addition : (word : List ℕ) → Bool
is_addition word = nat_lt (position_or_len is_equals word) (length word)

-- the name of the section that a word `NAME=DATA` adds, and the file with its data
abbrev pub added_in : (word : List ℕ) → List ℕ × List ℕ
added_in word = (before_first is_equals word, after_first is_equals word)

-- the first word that has no `=`
abbrev pub no_addition : (words : List (List ℕ)) → Option (List ℕ)
no_addition [] = None
no_addition (word ∷ words) = if is_addition word then no_addition words else Some word

-- whether a file is standard input
abbrev pub is_input : (file : List ℕ) → Bool
is_input file = bytes_eq file (codes "-")

-- whether standard input is among the files of these additions twice, or once more if it was asked for already
abbrev pub is_asked_again : (asked : Bool) → (additions : List (List ℕ × List ℕ)) → Bool
is_asked_again asked [] = false
is_asked_again asked (addition ∷ additions) =
    if is_input addition.1 then (if asked then true else is_asked_again true additions)
    else is_asked_again asked additions

-- a name and a file, or a name and the data of that file
abbrev pub parts_of : Addition → List ℕ × List ℕ
parts_of addition = (addition.name.now, addition.file.now)

abbrev pub loaded_parts : Loaded → List ℕ × List ℕ
loaded_parts loaded = (loaded.name.now, loaded.bytes.items)

-- A word was parsed, or has no `=`.
abbrev pub IsAddition : (word : List ℕ) → Option Addition → Type 0
IsAddition word (Some addition) = (is_addition word ≡ true) × (parts_of addition ≡ added_in word)
IsAddition word None = is_addition word ≡ false

-- All words were parsed, or this is the first one that has no `=`.
abbrev pub AreAdditions : {A : Type 0} → (words : List (List ℕ)) → Result (Vec Addition A) (Bor (List ℕ)) → Type 0
AreAdditions words (Ok additions) = (no_addition words ≡ None) × (map parts_of additions.items ≡ map added_in words)
AreAdditions words (Err word) = no_addition words ≡ Some word.now

-- The last operand is the file, and those before it are the sections; or there are too few.
abbrev pub AreOperands : (operands : List (List ℕ)) → Option Operands → Type 0
AreOperands operands (Some parts) =
    (operands ≡ texts parts.words.now ++ parts.file.now ∷ []) × (0 < length (texts parts.words.now))
AreOperands operands None = length operands < 2

-- Two lists are as long, and the relation holds of their elements in turn.
abbrev pub EachInTurn : {A B : Type 0} → (A → B → Type 0) → List A → List B → Type 0
EachInTurn R [] [] = Unit {0}
EachInTurn R [] (y ∷ ys) = ⊥
EachInTurn R (x ∷ xs) [] = ⊥
EachInTurn R (x ∷ xs) (y ∷ ys) = R x y × EachInTurn R xs ys

abbrev pub IsNew : (loaded : List ℕ × List ℕ) → NewSection → Type 0
IsNew loaded new = (new.name.now ≡ loaded.0) × (new.«data».now ≡ loaded.1)

-- The edit adds this section: in place of those with its name, or after the others.
abbrev pub IsAddedBy : (replaces : Bool) → (loaded : List ℕ × List ℕ) → Edit → Type 0
IsAddedBy true loaded (edit.Replace new) = IsNew loaded new
IsAddedBy false loaded (edit.Append new) = IsNew loaded new
IsAddedBy replaces loaded other = ⊥

-- the same where the stream was searched: sections whose name it has are replaced
abbrev pub IsAddedTo : (stream : List ℕ) → (loaded : List ℕ × List ℕ) → Edit → Type 0
IsAddedTo stream loaded edit =
    (found : Option Custom) × FindsSection loaded.0 0 stream (Ok found) × IsAddedBy (is_some found) loaded edit

-- the same where nothing is said of the search
abbrev pub IsAdded : (loaded : List ℕ × List ℕ) → Edit → Type 0
IsAdded loaded edit = (replaces : Bool) × IsAddedBy replaces loaded edit

-- Each section is added to the stream, or its first fault comes before one of them.
abbrev pub AddsTo : {A : Type 0} → (stream : List ℕ) → List (List ℕ × List ℕ) → Result (Vec Edit A) Error → Type 0
AddsTo stream loaded (Ok edits) = EachInTurn (IsAddedTo stream) loaded edits.items
AddsTo stream loaded (Err e) = (name : List ℕ) × FindsSection name 0 stream (Err e)

-- ---- the data of sections that are added

module _ {S I O : Type 0} (calls : SystemOf S I O) (sources : SourceOf I) where
  -- The file of a section was read, and these are the section's name and data.
  abbrev pub IsLoaded : (system : S) (addition loaded : List ℕ × List ℕ) → Type 0
  IsLoaded system addition loaded =
      (loaded.0 ≡ addition.0) × Gave calls sources system addition.1 loaded.1

  -- The files of some additions were read, and the next one could not be.
  pub record CannotLoad (additions : List (List ℕ × List ℕ)) (status : ℕ) (old new : Run S) : Type 0 where
    pub first : List (List ℕ × List ℕ)
    pub next : List ℕ × List ℕ
    pub count : ℕ
    pub begins : take count additions ≡ first ++ next ∷ []
    pub loaded : List (List ℕ × List ℕ)
    pub loads : EachInTurn (IsLoaded old.system) first loaded
    pub cannot : Holds calls sources next.1 (Err status) old new

  -- | the files with the data of sections that are added: each is read into memory, in order, or the first one that
  --   can't be is reported
  -- The files of all additions were read, or one could not be, or memory ran out.
  abbrev pub LoadsAll : (additions : List (List ℕ × List ℕ)) → Result (Vec Loaded Global) ℕ → (old new : Run S)
      → Type 0
  LoadsAll additions (Ok all) old new =
      EachInTurn (IsLoaded old.system) additions (map loaded_parts all.items) × (new ≡ old)
  LoadsAll additions (Err status) old new =
      CannotLoad additions status old new ⊎ RunsOut {A = Unit {0}} (Err status) old new

module _ {S I O : Type 0} (calls : SystemOf S I O) where
  -- A file was opened, and how the search of it ended was said, of which nothing is stated.
  pub record SearchesOpened (name : List ℕ) (result : Result (Unit {0}) ℕ) (old new : Run S) : Type 0 where
    pub opened : I
    pub opens : calls.opens old.system name (Ok opened)
    pub how : Result Ended ListError
    pub ends : EndsRun name how result old new

  -- | a file that is searched for sections: it is opened, and the search goes on or stops. What it reads and finds is
  --   not stated; nothing is written
  abbrev pub Searches : {A : Type 0} → (name : List ℕ) → Result A ℕ → (old new : Run S) → Type 0
  Searches name (Ok found) old new = SearchesOpened name (Ok tt) old new
  Searches name (Err status) old new = RunsOut {A = Unit {0}} (Err status) old new
      ⊎ (Opens calls name (Err status) old new ⊎ SearchesOpened name (Err status) old new)

-- ---- `producers --set`

-- the field that a value of `--set` names, and what it sets in it: `FIELD=NAME` or `FIELD=NAME:VERSION`
abbrev pub is_field : (field : List ℕ) → Bool
is_field field = bytes_eq field (codes "language")
    || (bytes_eq field (codes "processed-by") || bytes_eq field (codes "sdk"))

abbrev pub is_colon : ℕ → Bool
is_colon b = b == 58

-- the name of what is set: from after the `=` to the next colon
abbrev pub name_set : (word : List ℕ) → List ℕ
name_set word = before_first is_colon (after_first is_equals word)

-- whether a word is a value of `--set`: it has an `=`, before that the name of a field, and after it a name
abbrev pub is_setting : (word : List ℕ) → Bool
is_setting word =
    if nat_lt (position_or_len is_equals word) (length word)
    then (if is_field (before_first is_equals word) then nat_lt 0 (length (name_set word)) else false)
    else false

-- the first word that is none
abbrev pub no_setting : (words : List (List ℕ)) → Option (List ℕ)
no_setting [] = None
no_setting (word ∷ words) = if is_setting word then no_setting words else Some word

-- the first word that was refused
abbrev pub wrong_setting : {A : Type 0} → Result A (Bor (List ℕ)) → Option (List ℕ)
wrong_setting (Ok settings) = None
wrong_setting (Err word) = Some word.now

-- The first section with producers was looked for, and new data of it made; or the stream has a fault before it, or the
-- section itself.
abbrev pub FindsChange : {A : Type 0} → (stream : List ℕ) → Result A Error → Type 0
FindsChange stream (Ok new) = (found : Option Custom) × FindsSection (codes "producers") 0 stream (Ok found)
FindsChange stream (Err e) = FindsSection (codes "producers") 0 stream (Err e)
    ⊎ ((found : Option Custom) × FindsSection (codes "producers") 0 stream (Ok found))

-- All values of `--set` are settings, or the first that is none was refused.
abbrev pub AreSettings : {S A : Type 0} → (words : List (List ℕ)) → Result A ℕ → (old new : Run S) → Type 0
AreSettings words (Ok settings) old new = (no_setting words ≡ None) × (new ≡ old)
AreSettings words (Err status) old new = (word : List ℕ) × (no_setting words ≡ Some word)
    × Stops {A = Unit {0}} 2 (wrong_value_text verb.Producers (codes "--set") word) (Err status) old new

-- The same, unless memory ran out before.
abbrev pub TakesSettings : {S : Type 0} → (words : List (List ℕ)) → Result (Vec Setting Global) ℕ → (old new : Run S)
    → Type 0
TakesSettings words = Then Allots (λ (allotted : Unit {0}). AreSettings words)

-- ---- `extract`

-- The command takes the section with this name of this file.
abbrev pub IsSection : {S : Type 0} → (wanted name : List ℕ) → Result (Bor (List ℕ) × Bor (List ℕ)) ℕ
    → (old new : Run S) → Type 0
IsSection wanted name result old new = (section : Bor (List ℕ)) × (file : Bor (List ℕ))
    × (result ≡ Ok (section, file)) × (section.now ≡ wanted) × (file.now ≡ name) × (new ≡ old)

-- `extract` takes a name and at most one file, and without one standard input.
abbrev pub TakesNamed : {S : Type 0} → (operands : List (List ℕ)) → Result (Bor (List ℕ) × Bor (List ℕ)) ℕ
    → (old new : Run S) → Type 0
TakesNamed [] = Stops 2 (about_word verb.Extract (codes "needs ") (codes "NAME") [])
TakesNamed (wanted ∷ []) = IsSection wanted (codes "-")
TakesNamed (wanted ∷ (name ∷ [])) = IsSection wanted name
TakesNamed (wanted ∷ (name ∷ (extra ∷ more))) = Stops 2 (extra_text verb.Extract extra)

-- The same, unless memory ran out before.
abbrev pub TakesSection : {S : Type 0} → (operands : List (List ℕ)) → Result (Bor (List ℕ) × Bor (List ℕ)) ℕ
    → (old new : Run S) → Type 0
TakesSection operands = Then Allots (λ (allotted : Unit {0}). TakesNamed operands)

-- The wanted section comes after this many others with its name, or the value of `--index` was refused.
abbrev pub TakesIndex : {S : Type 0} → (index : Option (Option (List ℕ))) → Result ℕ ℕ → (old new : Run S) → Type 0
TakesIndex index (Ok skips) old new = Skips index (Some skips) × (new ≡ old)
TakesIndex index (Err status) old new = Skips index None × Stops {A = Unit {0}} 2
    (wrong_value_text verb.Extract (codes "--index") (value_text index)) (Err status) old new

module _ {S I O : Type 0} (calls : SystemOf S I O) (sinks : SinkOf O) (route : Route) where
  -- what is written of a section that was found, or said of one that was not
  abbrev pub EndsExtract : (wanted : List ℕ) → Result (Option Custom) Error → Result (Unit {0}) ℕ → (old new : Run S)
      → Type 0
  EndsExtract wanted (Ok (Some section)) = WritesTo calls sinks (place section.reader).rest route
  EndsExtract wanted (Ok None) = Stops 1 (missing_text verb.Extract route.name wanted)
  EndsExtract wanted (Err e) = StopsAtFault route.name e

  -- The data of the section were written, if the stream has it before its first fault.
  pub record ExtractsIn (wanted : Wanted) (stream : List ℕ) (result : Result (Unit {0}) ℕ)
      (old new : Run S) : Type 0 where
    pub found : Result (Option Custom) Error
    pub finds : FindsSection wanted.name.now wanted.before stream found
    pub ends : EndsExtract wanted.name.now found result old new

  -- These bytes were written, unless memory ran out before.
  abbrev pub WritesSet : (bytes : List ℕ) → Result (Unit {0}) ℕ → (old new : Run S) → Type 0
  WritesSet bytes = Then Allots (λ (allotted : Unit {0}). WritesTo calls sinks bytes route)

  -- The stream was written with the new section in place of its first one with the name.
  pub record ReplacesIn (new_section : NewSection) (stream : List ℕ) (result : Result (Unit {0}) ℕ)
      (old new : Run S) : Type 0 where
    pub bytes : List ℕ
    pub replaces : ReplacesFirst new_section stream bytes
    pub writes : WritesSet bytes result old new

  -- The stream has no section with the name, and was written with the new one after its own.
  pub record AppendsIn (new_section : NewSection) (stream : List ℕ) (result : Result (Unit {0}) ℕ)
      (old new : Run S) : Type 0 where
    pub bytes : List ℕ
    pub none : FindsFirst new_section.name.now stream (Ok None)
    pub appends : IsEdited (edit.Append new_section ∷ []) stream bytes
    pub writes : WritesSet bytes result old new

  -- The stream has this fault, and this was said.
  pub record StopsIn (stream : List ℕ) (result : Result (Unit {0}) ℕ) (old new : Run S) : Type 0 where
    pub fault : Error
    pub ends : EndsWithFault stream fault
    pub stops : StopsAtFault route.name fault result old new

  -- The section was set in a stream without a fault, or the fault was said.
  abbrev pub SetsIn : (new_section : NewSection) (stream : List ℕ) → Result (Unit {0}) ℕ → (old new : Run S)
      → Type 0
  SetsIn new_section stream result old new = ReplacesIn new_section stream result old new
      ⊎ (AppendsIn new_section stream result old new ⊎ StopsIn stream result old new)

  -- The section was set, or refused since it is too large.
  abbrev pub SetsNew : (new_section : NewSection) (stream : List ℕ) → Result (Unit {0}) ℕ → (old new : Run S)
      → Type 0
  SetsNew new_section stream result old new =
      (¬ Fits new_section × Stops 2 (too_large_text verb.Producers new_section.name.now) result old new)
      ⊎ SetsIn new_section stream result old new

  -- The section was set to new data.
  pub record SetsSection (stream : List ℕ) (result : Result (Unit {0}) ℕ) (old new : Run S) : Type 0 where
    pub new_section : NewSection
    pub named : new_section.name.now ≡ codes "producers"
    pub sets : SetsNew new_section stream result old new

  -- The first section with producers was looked for and changed, or has a fault, unless memory ran out.
  abbrev pub SetsHeld : (stream : List ℕ) → Result (Unit {0}) ℕ → (old new : Run S) → Type 0
  SetsHeld stream = Then (Makes (FindsChange stream)) (λ change.
      Then (IsSound {A = Vec ℕ Global} route.name change) (λ changed. SetsSection stream))

module _ {S I O : Type 0} (calls : SystemOf S I O) (sources : SourceOf I) (sinks : SinkOf O) (reads : List Read) where
  -- The sections of a file stay that are to be kept, and other custom sections are removed.
  pub record StripsFile (name : List ℕ) (result : Result (Unit {0}) ℕ) (old new : Run S) : Type 0 where
    pub keep : Keep
    pub kept : IsKept reads keep
    pub changes : Changes calls sources sinks (edit.Keep keep ∷ []) (route_from name reads) result old new

  -- | the command `strip`: the file or standard input, the sections that stay by `--keep`, `--only`, `--debug` and
  --   `--keep-names`, and where the stream is written, which is no terminal [`Strips`, `removed_in`]
  abbrev pub Strips : Result (Unit {0}) ℕ → (old new : Run S) → Type 0
  Strips = Then Allots (λ (kept : Unit {0}). Then Allots (λ (removed : Unit {0}).
      Then (TakesFile verb.Strip (operands_in reads)) (λ file.
      Then (SparesTerminal calls (target_in reads)) (λ (spared : Unit {0}). StripsFile file.now))))

  -- | the command `extract`: the file or standard input, the section that is found by its name and `--index`, and where
  --   its data are written
  abbrev pub Extracts : Result (Unit {0}) ℕ → (old new : Run S) → Type 0
  Extracts = Then (TakesSection (operands_in reads)) (λ taken.
      Then (TakesIndex (last_value option.Index None reads)) (λ skips. Then (Holds calls sources taken.1.now)
      (λ bytes. ExtractsIn calls sinks (route_from taken.1.now reads) (record { name = taken.0; before = skips })
      bytes.items)))

  -- | the command `producers --set`: the file or standard input, the section that is set, and where the stream is
  --   written. The new data of the section are not stated
  abbrev pub SetsProducers : Result (Unit {0}) ℕ → (old new : Run S) → Type 0
  SetsProducers = Then (TakesSettings (values_in option.Set reads))
      (λ settings. Then (TakesFile verb.Producers (operands_in reads)) (λ file. Then (Holds calls sources file.now)
      (λ bytes. SetsHeld calls sinks (route_from file.now reads) bytes.items)))

-- ---- `add`

abbrev pub no_data_text : (word : List ℕ) → List ℕ
no_data_text word = about_word verb.Add (codes "'") word (codes "' is not NAME=DATA")

abbrev pub few_text : List ℕ
few_text = about_word verb.Add (codes "needs ") (codes "NAME=DATA and FILE") []

-- Standard input is asked for more than once, or these additions and this file were taken.
abbrev pub TakesOnce : {S : Type 0} → (again : Bool) → (additions : List (List ℕ × List ℕ)) (file : List ℕ)
    → Result (Vec Addition Global × Bor (List ℕ)) ℕ → (old new : Run S) → Type 0
TakesOnce true additions file result old new = Stops 2 input_twice_text result old new
TakesOnce false additions file result old new = (taken : Vec Addition Global × Bor (List ℕ)) × (result ≡ Ok taken)
    × (map parts_of taken.0.items ≡ additions) × (taken.1.now ≡ file) × (new ≡ old)

-- by the first word that has no `=`
abbrev pub TakesWords : {S : Type 0} → (refused : Option (List ℕ)) → (words : List (List ℕ)) (file : List ℕ)
    → Result (Vec Addition Global × Bor (List ℕ)) ℕ → (old new : Run S) → Type 0
TakesWords (Some word) words file = Stops 2 (no_data_text word)
TakesWords None words file =
    TakesOnce (is_asked_again (is_input file) (map added_in words)) (map added_in words) file

-- The last operand is the file, and those before it are the sections.
pub record TakesOperands {S : Type 0} (operands : List (List ℕ))
    (result : Result (Vec Addition Global × Bor (List ℕ)) ℕ) (old new : Run S) : Type 0 where
  pub words : List (List ℕ)
  pub file : List ℕ
  pub are : operands ≡ words ++ file ∷ []
  pub some : 0 < length words
  pub takes : Then Allots (λ (allotted : Unit {0}). TakesWords (no_addition words) words file) result old new

-- `add` takes sections and a file, of which at most one is standard input.
abbrev pub TakesParts : {S : Type 0} → (operands : List (List ℕ))
    → Result (Vec Addition Global × Bor (List ℕ)) ℕ → (old new : Run S) → Type 0
TakesParts operands result old new = ((length operands < 2) × Stops 2 few_text result old new)
    ⊎ TakesOperands operands result old new

-- The same, unless memory ran out before.
abbrev pub TakesAdditions : {S : Type 0} → (operands : List (List ℕ))
    → Result (Vec Addition Global × Bor (List ℕ)) ℕ → (old new : Run S) → Type 0
TakesAdditions operands = Then Allots (λ (allotted : Unit {0}). TakesParts operands)

-- the edits that add sections, of which these are the names and data
module _ {S : Type 0} (loaded : List (List ℕ × List ℕ)) where
  -- Each section is added by one edit, in order, unless memory ran out.
  abbrev pub AddsEach : (is_added : List ℕ × List ℕ → Edit → Type 0) → Result (Vec Edit Global) ℕ → (old new : Run S)
      → Type 0
  AddsEach is_added = Makes (λ edits. EachInTurn is_added loaded edits.items)

  -- The sections are added to a stream in memory, and those whose name it has are replaced; or the stream has its first
  -- fault before one that is looked for, and this was said.
  abbrev pub AddsHeld : (name stream : List ℕ) → Result (Vec Edit Global) ℕ → (old new : Run S) → Type 0
  AddsHeld name stream = Then (Makes (AddsTo stream loaded)) (IsSound name)

module _ {S I O : Type 0} (calls : SystemOf S I O) (loaded : List (List ℕ × List ℕ)) where
  -- The file was searched, and the sections are added.
  abbrev pub AddsFound : (name : List ℕ) → Result (Vec Edit Global) ℕ → (old new : Run S) → Type 0
  AddsFound name = Then (Searches calls name) (λ (found : Unit {0}). AddsEach loaded IsAdded)

  -- with `--replace`, by what is held of the stream
  abbrev pub AddsReplaced : (name : List ℕ) → Option (Vec ℕ Global) → Result (Vec Edit Global) ℕ → (old new : Run S)
      → Type 0
  AddsReplaced name (Some held) = AddsHeld loaded name held.items
  AddsReplaced name None = AddsFound name

  abbrev pub AddsBy : (original : Original) → (replaces : Bool) → Result (Vec Edit Global) ℕ → (old new : Run S)
      → Type 0
  AddsBy original false = AddsEach loaded (IsAddedBy false)
  AddsBy original true = AddsReplaced original.way.name.now original.held

-- these are what was prepared
abbrev pub IsPrepared : {S : Type 0} → Vec Loaded Global → Original → Result (Vec Loaded Global × Original) ℕ
    → (old new : Run S) → Type 0
IsPrepared loaded original result old new = (result ≡ Ok (loaded, original)) × (new ≡ old)

module _ {S I O : Type 0} (calls : SystemOf S I O) (sources : SourceOf I) where
  -- The data of all sections were read, and then the stream to which they are added.
  abbrev pub Prepares : List Read → Result (Vec Loaded Global × Original) ℕ → (old new : Run S) → Type 0
  Prepares reads = Then (TakesAdditions (operands_in reads)) (λ taken.
      Then (LoadsAll calls sources (map parts_of taken.0.items)) (λ loaded.
      Then (Finds calls sources (route_from taken.1.now reads)) (λ original. IsPrepared loaded original)))

module _ {S I O : Type 0} (calls : SystemOf S I O) (sources : SourceOf I) (sinks : SinkOf O) where
  -- The stream was written with these edits, or they were refused since a section is too large.
  abbrev pub WritesAdded : (edits : List Edit) (original : Original) → Result (Unit {0}) ℕ → (old new : Run S) → Type 0
  WritesAdded edits original result old new =
      ((¬ All CanBeMade edits) × (name : List ℕ) × Stops 2 (too_large_text verb.Add name) result old new)
      ⊎ EditsTo calls sources sinks edits original result old new

  -- These sections were added to the stream. One that was searched for their names has no fault.
  abbrev pub AddsTaken : (replaces : Bool) → Vec Loaded Global × Original → Result (Unit {0}) ℕ → (old new : Run S)
      → Type 0
  AddsTaken replaces taken = Then (AddsBy calls (map loaded_parts taken.0.items) taken.1 replaces)
      (λ edits. WritesAdded edits.items (record taken.1 { is_checked = replaces }))

  -- | the command `add`: the sections and the files with their data, the file or standard input to which they are
  --   added, and where the stream is written [`Prepares`, `AddsBy`, `WritesAdded`]
  abbrev pub Adds : List Read → Result (Unit {0}) ℕ → (old new : Run S) → Type 0
  Adds reads = Then (Prepares calls sources reads) (AddsTaken (has_option option.Replace reads))
