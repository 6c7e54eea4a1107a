-- What a check of an input finds.
use Rattle.std.specs.Prelude.{◌≡◌, ◌<◌, ◌^◌, ℕ, Bool, true, false, List, [], ◌++◌, codes, length, None, Result, Ok, Err}
use Rattle.std.specs.Prelude.{if◌then◌else◌, IfOk}
use Rattle.std.specs.Io.KnownBytes.{Appends, Consumes}
use Rattle.wasm_base.specs.Features.{all_features}
use Rattle.wasm_commands.specs.Messages.{name_shown}
use Rattle.wasm_commands.specs.Rewrites.{OnlyWrites, Opens, input_device}
use Rattle.wasm_commands.specs.Runs.{Allots, Fails, Run, Then, output_of}
use Rattle.wasm_commands.specs.declared.system.System.{Ghosts as SystemOf}
use Rattle.wasm_dumper.specs.Counting.{no_counts}
use Rattle.wasm_dumper.specs.Walks.{SeenOf, events_seen}
use Rattle.wasm_frames.specs.Along.{ReadingBegins}
use Rattle.wasm_grammar.specs.Reading.{Event}
use Rattle.wasm_streams.specs.declared.turns.Ended.{Ended}
use Rattle.wasm_io.specs.Calls.{Change, bytes_of}
use Rattle.wasm_io.specs.Page.{WritesHead}
use Rattle.wasm_io.specs.declared.devices.ListError.{ListError}
use Rattle.wasm_io.specs.declared.devices.source.Source.{Ghosts as SourceOf}
use Rattle.wasm_output.specs.Said.{HasPut}
use Rattle.wasm_show.specs.Noted.{HasNoted, Noted, lines_since}
use Rattle.wasm_show.specs.Seen.{Seen, any_fault, lines_of, outside}

-- what comes before each fault of a file
abbrev pub prefix_text : (name : List ℕ) → List ℕ
prefix_text name = name_shown name ++ codes ": "

-- An input was walked over, of which all was seen that the stream has, and the lines of that were written.
pub record ReadsOn (input : Change) (old new : Noted) (found : Bool) : Type 0 where
  pub how : Ended
  pub seen : List Seen
  pub of_stream : SeenOf true input how seen
  pub has : HasNoted old seen new
  pub going : new.output.why ≡ None
  pub out : new.output.waiting ≡ []
  pub is : found ≡ new.has_found

-- What the source gave begins with these events.
pub record GaveFirst (input : Change) (first : List Event) : Type 0 where
  pub given : List ℕ
  pub gave : Consumes input.before input.after given
  pub begins : length given < 2 ^ 64 → ReadingBegins 0 all_features given first

-- A walk or its output failed. Of what the first events have a beginning was seen, and the lines of that were put, as
-- far as the output could.
pub record ReadsFirst (input : Change) (old new : Noted) : Type 0 where
  pub first : List Event
  pub gave : GaveFirst input first
  pub seen : List Seen
  pub left : List Seen
  pub is : seen ++ left ≡ events_seen true no_counts first
  pub puts : HasPut old.output (lines_since old seen) new.output
  pub out : new.output.why ≡ None → new.output.waiting ≡ []

abbrev pub ReadsInput : (input : Change) (old new : Noted) → Result Bool ListError → Type 0
ReadsInput input old new (Ok found) = ReadsOn input old new found
ReadsInput input old new (Err why) = ReadsFirst input old new

-- All of what the source gave was seen. The lines of its faults were written, each after this prefix, unless the check
-- is quiet, and the result is whether a fault is among what was seen.
pub record ChecksWhole (prefix : List ℕ) (is_quiet : Bool) (input output : Change) (found : Bool) : Type 0 where
  pub how : Ended
  pub seen : List Seen
  pub of_stream : SeenOf true input how seen
  pub lines : Appends output.before output.after (if is_quiet then [] else lines_of prefix outside seen)
  pub is : found ≡ any_fault seen

-- The check failed. Of the lines of what the first events have a beginning was written.
pub record ChecksFirst (prefix : List ℕ) (is_quiet : Bool) (input output : Change) : Type 0 where
  pub first : List Event
  pub gave : GaveFirst input first
  pub lines : WritesHead output.before output.after
      (if is_quiet then [] else lines_of prefix outside (events_seen true no_counts first))

-- | whether an input has a fault, in the stream or in an item of it, and the lines that say so
-- Whether what the source gave has a fault, and the lines of all; or those of a beginning, where the check failed.
abbrev pub ChecksInput : (prefix : List ℕ) (is_quiet : Bool) (input output : Change) → Result Bool ListError → Type 0
ChecksInput prefix is_quiet input output (Ok found) = ChecksWhole prefix is_quiet input output found
ChecksInput prefix is_quiet input output (Err why) = ChecksFirst prefix is_quiet input output

-- The status is 1 if there is a fault. Why a check failed is said.
abbrev pub EndsCheck : {S : Type 0} → (name : List ℕ) → Result Bool ListError → Result (Unit {0}) ℕ → (old new : Run S)
    → Type 0
EndsCheck name (Ok false) result old new = (result ≡ Ok tt) × (new ≡ old)
EndsCheck name (Ok true) result old new = (result ≡ Err 1) × (new ≡ old)
EndsCheck name (Err why) result old new = Fails name why result old new

-- An input was checked, the output was flushed if that did not fail, and the command ends by what was found.
pub record ChecksOpened {S I : Type 0} (sources : SourceOf I) (is_quiet : Bool) (name : List ℕ) (opened : I)
    (result : Result (Unit {0}) ℕ) (old new : Run S) : Type 0 where
  pub rest : I
  pub found : Result Bool ListError
  pub middle : Run S
  pub checks : ChecksInput (prefix_text name) is_quiet (bytes_of (input_device sources opened rest))
      (bytes_of (output_of old middle)) found
  pub forwards : IfOk found (λ found. middle.forwarded ≡ true)
  pub only : OnlyWrites old middle
  pub ends : EndsCheck name found result middle new

module _ {S I O : Type 0} (calls : SystemOf S I O) (sources : SourceOf I) where
  -- | a file that is checked [`ChecksInput`, `EndsCheck`]
  -- The file was checked, or could not be opened, or memory ran out before.
  abbrev pub ChecksFile : (is_quiet : Bool) (name : List ℕ) → Result (Unit {0}) ℕ → (old new : Run S) → Type 0
  ChecksFile is_quiet name = Then Allots (λ (allotted : Unit {0}).
      Then (Opens calls name) (ChecksOpened sources is_quiet name))
