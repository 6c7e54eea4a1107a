-- What the commands of the program do with files and devices.
use Rattle.std.specs.Prelude.{◌≡◌, ℕ, Bool, true, false, List, [], ◌∷◌, codes, map, string_bytes, Option, Some}
use Rattle.std.specs.Prelude.{None}
use Rattle.std.specs.Prelude.{Result, Ok, Err, String}
use Rattle.std.specs.Vec.Iter.{into_iter_items}
use Rattle.std.specs.declared.alloc.Global.{Global}
use Rattle.std.specs.declared.io.Error.{Error}
use Rattle.std.specs.declared.vec.IntoIter.{IntoIter}
use Rattle.wasm_commands.specs.ArgumentLists.{Read, Wrong, arguments_of, has_option, operands_in, values_in}
use Rattle.wasm_commands.specs.Checks.{ChecksFile}
use Rattle.wasm_commands.specs.Formats.{format_asked}
use Rattle.wasm_commands.specs.Messages.{about_word, complaint_text, no_command_text, unknown_command_text}
use Rattle.wasm_commands.specs.Options.{verb_named}
use Rattle.wasm_commands.specs.Refusals.{asks_for_help, asks_for_version, unknown_text, wrong_text}
use Rattle.wasm_commands.specs.RewriteCommands.{Adds, Extracts, SetsProducers, Strips}
use Rattle.wasm_commands.specs.Rewrites.{WritesOut}
use Rattle.wasm_commands.specs.Runs.{Allots, InTurn, Run, RunsOut, Stops, Then, named_files, status_in}
use Rattle.wasm_commands.specs.Shows.{IsAsked, ShowsFile}
use Rattle.wasm_commands.specs.declared.dump.Plan.{Plan}
use Rattle.wasm_commands.specs.declared.dump.format.Format.{Format}
use Rattle.wasm_commands.specs.declared.files.Task.{Task}
use Rattle.wasm_commands.specs.declared.files.Task.TheVariants.{Show, Check}
use Rattle.wasm_commands.specs.declared.messages.Complaint.TheVariants as complaint
use Rattle.wasm_commands.specs.declared.options.Flag.TheVariants.{Help, Quiet, Version}
use Rattle.wasm_commands.specs.declared.options.Flag.TheVariants as option
use Rattle.wasm_commands.specs.declared.options.Verb.{Verb}
use Rattle.wasm_commands.specs.declared.options.Verb.TheVariants as verb
use Rattle.wasm_commands.specs.declared.system.System.{Ghosts as SystemOf}
use Rattle.wasm_console.specs.Arguments.{IsGiven}
use Rattle.wasm_console.specs.declared.arguments.Given.{Given}
use Rattle.wasm_console.specs.declared.arguments.Given.TheVariants.{Words, NotUtf8, Nothing}
use Rattle.wasm_io.specs.declared.devices.sink.Sink.{Ghosts as SinkOf}
use Rattle.wasm_io.specs.declared.devices.source.Source.{Ghosts as SourceOf}

-- | an exit status that says how a run ended
-- The step was done, and this is its status.
abbrev pub Exits : {S : Type 0} → (step : Result (Unit {0}) ℕ → (old new : Run S) → Type 0) → (status : ℕ)
    → (old new : Run S) → Type 0
Exits step status old new =
    (result : Result (Unit {0}) ℕ) × (status ≡ status_in result) × step result old new

-- what is said of `--output` without `--set`
abbrev pub set_is_missing : List ℕ
set_is_missing = about_word verb.Producers (codes "needs ") (codes "--set with --output") []

-- | a text that is printed, such as that of `--help`: it is written and forwarded, or the output fails
-- Some text was printed.
abbrev pub Prints : {S : Type 0} → Result (Unit {0}) ℕ → (old new : Run S) → Type 0
Prints result old new = (text : List ℕ) × WritesOut text result old new

-- The words after `help` are a command, or none; others are refused.
abbrev pub PrintsTopic : {S : Type 0} → Option Verb → (word : List ℕ) → Result (Unit {0}) ℕ → (old new : Run S) → Type 0
PrintsTopic (Some verb) word = Prints
PrintsTopic None word = Stops 2 (unknown_command_text word)

abbrev pub PrintsHelp : {S : Type 0} → (words : List (List ℕ)) → Result (Unit {0}) ℕ → (old new : Run S) → Type 0
PrintsHelp [] = Prints
PrintsHelp (word ∷ more) = PrintsTopic (verb_named word) word

-- by whether a word asks for help, or for the version
abbrev pub RunsAsked : {S : Type 0} → (help version : Bool) → (word : List ℕ) (more : List (List ℕ))
    → Result (Unit {0}) ℕ → (old new : Run S) → Type 0
RunsAsked true version word more = PrintsHelp more
RunsAsked false true word more = Prints
RunsAsked false false word more = Stops 2 (unknown_text word)

-- A first word that is no command asks for a text, or is refused.
abbrev pub RunsOther : {S : Type 0} → (word : List ℕ) (more : List (List ℕ)) → Result (Unit {0}) ℕ → (old new : Run S)
    → Type 0
RunsOther word more = RunsAsked (asks_for_help word) (asks_for_version word) word more

module _ {S I O : Type 0} (calls : SystemOf S I O) (sources : SourceOf I) where
  -- | what is done with each file that is read: it is shown, or checked
  -- A file was shown, or checked.
  abbrev pub DoesTask : Task → (name : List ℕ) → Result (Unit {0}) ℕ → (old new : Run S) → Type 0
  DoesTask (Show plan) name = ShowsFile calls sources plan name
  DoesTask (Check is_quiet) name = ChecksFile calls sources is_quiet name

  -- The files that operands name were used in turn, or standard input if there are none.
  abbrev pub UsesFiles : Task → (operands : List (List ℕ)) → Result (Unit {0}) ℕ → (old new : Run S) → Type 0
  UsesFiles task operands result old new =
      InTurn (DoesTask task) (named_files operands) (status_in result) old new

  -- The files were shown as the arguments ask for.
  pub record ShowsIn (verb : Verb) (reads : List Read) (format : Format) (result : Result (Unit {0}) ℕ)
      (old new : Run S) : Type 0 where
    pub plan : Plan
    pub asked : IsAsked verb reads format plan
    pub shows : UsesFiles (Show plan) (operands_in reads) result old new

  -- Files were shown in the format that is asked for, or what is wrong with the options was said.
  abbrev pub ShowsAsked : Verb → List Read → Result Format (List ℕ) → Result (Unit {0}) ℕ → (old new : Run S) → Type 0
  ShowsAsked verb reads (Ok format) = Then Allots (λ (allotted : Unit {0}). ShowsIn verb reads format)
  ShowsAsked verb reads (Err text) = Stops 2 text

  -- | what `list` and `dump` do with the files that their arguments name, and `producers` that sets nothing
  -- The system said whether the output is a terminal, and the files were shown.
  abbrev pub Shows : Verb → List Read → Result (Unit {0}) ℕ → (old new : Run S) → Type 0
  Shows verb reads result old new = (is_terminal : Bool) × calls.shows old.system is_terminal
      × ShowsAsked verb reads (format_asked verb reads is_terminal) result old new

  -- | what `check` does with the files that its arguments name
  abbrev pub Checks : List Read → Result (Unit {0}) ℕ → (old new : Run S) → Type 0
  Checks reads = Then Allots (λ (allotted : Unit {0}). UsesFiles (Check (has_option Quiet reads)) (operands_in reads))

  -- by whether `--output` is given
  abbrev pub ShowsUnless : (has_output : Bool) → List Read → Result (Unit {0}) ℕ → (old new : Run S) → Type 0
  ShowsUnless true reads = Stops 2 set_is_missing
  ShowsUnless false reads = Shows verb.Producers reads

  -- what `producers` without `--set` does: it shows the section, and refuses `--output`
  abbrev pub ShowsProducers : List Read → Result (Unit {0}) ℕ → (old new : Run S) → Type 0
  ShowsProducers reads = ShowsUnless (has_option option.Output reads) reads

module _ {S I O : Type 0} (calls : SystemOf S I O) (sources : SourceOf I) (sinks : SinkOf O) where
  -- what `producers` does, by the values of `--set`
  abbrev pub ProducersBy : (settings : List (List ℕ)) → List Read → Result (Unit {0}) ℕ → (old new : Run S) → Type 0
  ProducersBy [] reads = ShowsProducers calls sources reads
  ProducersBy (word ∷ words) reads = SetsProducers calls sources sinks reads

  -- It sets what `--set` says, or shows the section if there are no values.
  abbrev pub SetsOrShows : List Read → Result (Unit {0}) ℕ → (old new : Run S) → Type 0
  SetsOrShows reads = ProducersBy (values_in option.Set reads) reads

  -- | the command `producers`: it shows the section, or sets it [`ProducersBy`]
  abbrev pub Produces : List Read → Result (Unit {0}) ℕ → (old new : Run S) → Type 0
  Produces reads = Then Allots (λ (allotted : Unit {0}). SetsOrShows reads)

  -- What a command does with the files that its arguments name.
  abbrev pub RunsCommand : Verb → List Read → Result (Unit {0}) ℕ → (old new : Run S) → Type 0
  RunsCommand verb.Check reads = Checks calls sources reads
  RunsCommand verb.List reads = Shows calls sources verb.List reads
  RunsCommand verb.Dump reads = Shows calls sources verb.Dump reads
  RunsCommand verb.Strip reads = Strips calls sources sinks reads
  RunsCommand verb.Extract reads = Extracts calls sources sinks reads
  RunsCommand verb.Producers reads = Produces reads
  RunsCommand verb.Add reads = Adds calls sources sinks reads

  -- What a command does, unless a help text or the version is asked for: then a text was printed.
  pub record RunsParsed (verb : Verb) (reads : List Read) (result : Result (Unit {0}) ℕ) (old new : Run S) : Type 0
    where
      pub helps : has_option Help reads ≡ true → Prints result old new
      pub tells : has_option Help reads ≡ false → has_option Version reads ≡ true → Prints result old new
      pub runs : has_option Help reads ≡ false → has_option Version reads ≡ false
          → RunsCommand verb reads result old new

  -- The command ran with these arguments, or the first that is wrong was refused.
  abbrev pub RunsRead : Verb → Result (List Read) Wrong → Result (Unit {0}) ℕ → (old new : Run S) → Type 0
  RunsRead verb (Ok reads) = RunsParsed verb reads
  RunsRead verb (Err wrong) = Stops 2 (wrong_text verb wrong)

  -- The same, unless memory ran out before.
  abbrev pub RunsNamed : Verb → (words : List (List ℕ)) → Result (Unit {0}) ℕ → (old new : Run S) → Type 0
  RunsNamed verb words = Then Allots (λ (allotted : Unit {0}). RunsRead verb (arguments_of verb words))

  -- The first word is a command, which reads the others; or it asks for a text; or it is refused.
  abbrev pub RunsVerb : Option Verb → (word : List ℕ) (more : List (List ℕ)) → Result (Unit {0}) ℕ → (old new : Run S)
      → Type 0
  RunsVerb (Some verb) word more = RunsNamed verb more
  RunsVerb None word more = RunsOther word more

  -- | what the program does with its arguments: the first word is a command, which reads the other words. What is wrong
  --   before anything is read is refused: there is no command, or no such one, or an option of a command is wrong
  --   [`RunsVerb`, `RunsCommand`]
  -- What the program does with these words.
  abbrev pub RunsWords : (words : List (List ℕ)) → Result (Unit {0}) ℕ → (old new : Run S) → Type 0
  RunsWords [] = Stops 2 no_command_text
  RunsWords (word ∷ more) = RunsVerb (verb_named word) word more

  -- what the program does, by what was stored of its arguments
  abbrev pub RunsGiven : Given → Result (Unit {0}) ℕ → (old new : Run S) → Type 0
  RunsGiven (Words words) = RunsWords (map string_bytes words.items)
  RunsGiven NotUtf8 = Stops 2 (complaint_text complaint.NotUtf8)
  RunsGiven Nothing = RunsOut

  -- | the whole program, with its arguments as the system has them: after the program's name, unless one is not valid
  --   UTF-8, or memory runs out [`RunsGiven`; `wasm_console`: `Arguments.IsGiven`]
  -- The program was run with the arguments that the system has.
  pub record RunsProgram (arguments : Result (IntoIter (String Global) Global) Error) (status : ℕ) (old new : Run S)
      : Type 0 where
    pub given : Given
    pub stored : IsGiven (λ args. map string_bytes (into_iter_items args)) arguments given
    pub ends : Exits (RunsGiven given) status old new
