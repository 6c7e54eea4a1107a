-- What `list` and `dump` do with files, and `producers` without `--set`.
use Rattle.std.specs.Prelude.{◌≡◌, ◌⊎◌, ℕ, ◌<◌, ◌≤◌, Bool, true, false, ◌&&◌, not, List, [], ◌∷◌, ◌++◌, codes, length}
use Rattle.std.specs.Prelude.{max, nat_lt, Option, Result, Ok, Err, is_ok}
use Rattle.wasm_commands.specs.ArgumentLists.{Read, has_option, operands_in, values_in}
use Rattle.wasm_commands.specs.Choices.{ChooseInTurn}
use Rattle.wasm_commands.specs.Colors.{seen_as}
use Rattle.wasm_commands.specs.DumpRuns.{RunsDump}
use Rattle.wasm_commands.specs.Formats.{has_colors}
use Rattle.wasm_commands.specs.Messages.{missing_text, names_text}
use Rattle.wasm_commands.specs.Parsing.{texts}
use Rattle.wasm_commands.specs.Rewrites.{EndsBytes, OnlyWrites, Opens, WritesBytes, input_device}
use Rattle.wasm_commands.specs.Runs.{Fails, InTurn, Run, RunsOut, Stops, Then, output_of, status_in}
use Rattle.wasm_commands.specs.declared.dump.Plan.{Plan}
use Rattle.wasm_commands.specs.declared.dump.Request.{Request}
use Rattle.wasm_commands.specs.declared.dump.format.Format.{Format}
use Rattle.wasm_commands.specs.declared.dump.run.Titles.{Titles}
use Rattle.wasm_commands.specs.declared.options.Flag.TheVariants.{Bytes, Section}
use Rattle.wasm_commands.specs.declared.options.Verb.{Verb}
use Rattle.wasm_commands.specs.declared.options.Verb.TheVariants as verb
use Rattle.wasm_commands.specs.declared.system.System.{Ghosts as SystemOf}
use Rattle.wasm_dumper.specs.declared.events.Only.{Only}
use Rattle.wasm_dumper.specs.declared.events.Only.TheVariants.{All, Parts}
use Rattle.wasm_streams.specs.declared.turns.Ended.{Ended}
use Rattle.wasm_streams.specs.declared.turns.Ended.TheVariants.{End, Fault}
use Rattle.wasm_io.specs.declared.devices.ListError.{ListError}
use Rattle.wasm_io.specs.declared.devices.source.Source.{Ghosts as SourceOf}
use Rattle.wasm_output.specs.ItemNames.{Names}

-- ---- the line before a file

-- The name of the file was written as a line, or the output failed.
pub record WritesHeading {S : Type 0} (name : List ℕ) (result : Result (Unit {0}) ℕ) (old new : Run S) : Type 0 where
  pub is_complete : Bool
  pub middle : Run S
  pub writes : WritesBytes (name ++ codes ":\n") (output_of old middle) is_complete
  pub only : OnlyWrites old middle
  pub ends : EndsBytes is_complete result middle new

-- The same where files have titles. Nothing was done where they have none.
abbrev pub Heads : {S : Type 0} → (is_titled : Bool) → (name : List ℕ) → Result (Unit {0}) ℕ → (old new : Run S)
    → Type 0
Heads true name result old new = WritesHeading name result old new
Heads false name result old new = (result ≡ Ok tt) × (new ≡ old)

-- ---- how a dump ends

-- The status is 1 after a fault, which the dump has shown. Why a run failed is said.
abbrev pub EndsDump : {S : Type 0} → (name : List ℕ) → Result Ended ListError → Result (Unit {0}) ℕ → (old new : Run S)
    → Type 0
EndsDump name (Ok End) result old new = (result ≡ Ok tt) × (new ≡ old)
EndsDump name (Ok (Fault e)) result old new = (result ≡ Err 1) × (new ≡ old)
EndsDump name (Err why) result old new = Fails name why result old new

-- It was said that this word chose nothing of the file, or nothing was said.
abbrev pub MayWarn : {S : Type 0} → Verb → (name word : List ℕ) → Result (Unit {0}) ℕ → (old new : Run S) → Type 0
MayWarn verb name word result old new =
    Stops 1 (missing_text verb name word) result old new ⊎ ((result ≡ Ok tt) × (new ≡ old))

-- After a stream that was read to its end or fault, words that chose nothing were named; nothing was said after a run
-- that failed.
pub record WarnsAfter {S : Type 0} (plan : Plan) (name : List ℕ) (first status : ℕ) (old new : Run S) : Type 0 where
  pub read : first ≤ 1 → (warned : ℕ) × InTurn (MayWarn plan.verb name) (texts plan.words.now) warned old new
      × (status ≡ max first warned)
  pub failed : 1 < first → (status ≡ first) × (new ≡ old)

-- ---- one file

-- This input is to be dumped, unless memory ran out.
abbrev pub StaysOpen : {S I : Type 0} → (opened : I) → Result (I × Titles) ℕ → (old new : Run S) → Type 0
StaysOpen opened (Ok begun) old new = (begun.0 ≡ opened) × (new ≡ old)
StaysOpen opened (Err status) old new = RunsOut {A = Unit {0}} (Err status) old new

-- An input was dumped to the output and flushed, and the command ends as that did.
pub record DumpsInput {S I : Type 0} (sources : SourceOf I) (plan : Plan) (name : List ℕ) (opened : I)
    (result : Result (Unit {0}) ℕ) (old new : Run S) : Type 0 where
  pub rest : I
  pub how : Result Ended ListError
  pub middle : Run S
  pub dumps : RunsDump plan.format plan.shown (input_device sources opened rest)
      (seen_as (has_colors plan.format) (output_of old middle)) middle.forwarded how
  pub only : OnlyWrites old middle
  pub ends : EndsDump name how result middle new

module _ {S I O : Type 0} (calls : SystemOf S I O) where
  -- The names of a file's items were read, if it can be read again; or memory ran out.
  abbrev pub MayReread : {A : Type 0} → (name : List ℕ) → Result A ℕ → (old new : Run S) → Type 0
  MayReread name (Ok names) old new = calls.rereads old.system name true × (new ≡ old)
  MayReread name (Err status) old new =
      (calls.rereads old.system name false × Stops {A = Unit {0}} 2 (names_text name) (Err status) old new)
      ⊎ RunsOut {A = Unit {0}} (Err status) old new

  abbrev pub OpensForNames : {A : Type 0} → (name : List ℕ) → Result A ℕ → (old new : Run S) → Type 0
  OpensForNames name = Then (Opens calls name) (λ opened. MayReread name)

  -- A file was opened and read for the names of its items. Standard input was refused, and not opened.
  pub record ReadsNames {A : Type 0} (name : List ℕ) (result : Result A ℕ) (old new : Run S) : Type 0 where
    pub of_input : name ≡ codes "-" → Stops 2 (names_text name) result old new
    pub of_file : ¬ (name ≡ codes "-") → OpensForNames name result old new

  -- by whether names are shown
  abbrev pub TakesNames : {A : Type 0} → (is_named : Bool) → (name : List ℕ) → Result A ℕ → (old new : Run S) → Type 0
  TakesNames true name result old new = ReadsNames name result old new
  TakesNames false name result old new = (is_ok result ≡ true) × (new ≡ old)

  -- Names were read if they are shown, and then the file was opened, for a second time if it was read for names.
  abbrev pub Begins : (is_named : Bool) → (name : List ℕ) → Result (I × Titles) ℕ → (old new : Run S) → Type 0
  Begins is_named name =
      Then (TakesNames {A = Option Names} is_named name) (λ names. Then (Opens calls name) StaysOpen)

module _ {S I O : Type 0} (calls : SystemOf S I O) (sources : SourceOf I) where
  -- The file was dumped, or could not be opened, or memory ran out before.
  abbrev pub Dumps : Plan → (name : List ℕ) → Result (Unit {0}) ℕ → (old new : Run S) → Type 0
  Dumps plan name = Then (Begins calls plan.format.is_named name) (λ begun. DumpsInput sources plan name begun.0)

  -- The file was dumped, and it was said which words chose nothing of it.
  pub record ShowsAll (plan : Plan) (name : List ℕ) (result : Result (Unit {0}) ℕ) (old new : Run S) : Type 0 where
    pub first : Result (Unit {0}) ℕ
    pub middle : Run S
    pub dumps : Dumps plan name first old middle
    pub warns : WarnsAfter plan name (status_in first) (status_in result) middle new

  -- | a file that is shown, after its name where there are several [`Dumps`, `WarnsAfter`]
  -- The file was shown, after its name if files have titles.
  abbrev pub ShowsFile : Plan → (name : List ℕ) → Result (Unit {0}) ℕ → (old new : Run S) → Type 0
  ShowsFile plan name = Then (Heads plan.is_titled name) (λ (headed : Unit {0}). ShowsAll plan name)

-- ---- commands

-- the words that choose sections: the values of `--section`, and the name of the section that `producers` shows
abbrev pub words_asked : Verb → List Read → List (List ℕ)
words_asked verb.Producers reads = values_in Section reads ++ (codes "producers" ∷ [])
words_asked other reads = values_in Section reads

-- the choices after those of words: for `list` only parts, and all if there are no words
abbrev pub also_chosen : Verb → (words : List (List ℕ)) → List Only
also_chosen verb.List words = Parts ∷ []
also_chosen other [] = All ∷ []
also_chosen other (word ∷ words) = []

-- These are the choices of a command.
abbrev pub ChooseFor : Verb → (words : List (List ℕ)) → List Only → Type 0
ChooseFor verb words only =
    (chosen : List Only) × ChooseInTurn words chosen × (only ≡ chosen ++ also_chosen verb words)

-- whether each file's name is written before what is shown of it: of several, unless JSON has the names
abbrev pub has_titles : Format → (operands : List (List ℕ)) → Bool
has_titles format operands = not format.is_json && nat_lt 1 (length operands)

-- The plan is what the arguments ask for.
pub record IsAsked (verb : Verb) (reads : List Read) (format : Format) (plan : Plan) : Type 0 where
  pub of_verb : plan.verb ≡ verb
  pub words : texts plan.words.now ≡ words_asked verb reads
  pub chooses : ChooseFor verb (words_asked verb reads) plan.shown.only.now
  pub bytes : plan.shown.has_bytes ≡ has_option Bytes reads
  pub formatted : plan.format ≡ format
  pub titled : plan.is_titled ≡ has_titles format (operands_in reads)

-- The request has the files that the arguments name, and the words and choices that they ask for.
pub record IsRequest (verb : Verb) (reads : List Read) (request : Request) : Type 0 where
  pub names : texts request.names.items ≡ operands_in reads
  pub words : texts request.words.items ≡ words_asked verb reads
  pub chooses : ChooseFor verb (words_asked verb reads) request.only.items
