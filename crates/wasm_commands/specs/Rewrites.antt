-- What the commands that write a stream do: which files they open, what they write of them, and which file is replaced.
use Rattle.std.specs.Prelude.{◌≡◌, ◌⊎◌, ℕ, Bool, true, false, List, [], take, codes, bytes_eq, Option, Some, None}
use Rattle.std.specs.Prelude.{Vec, Result, Ok, Err, if◌then◌else◌}
use Rattle.std.specs.Io.KnownBytes.{Appends, Consumes, IsAtEnd, Keeps}
use Rattle.std.specs.declared.alloc.Global.{Global}
use Rattle.wasm_grammar.specs.Accepted.{IsAccepted}
use Rattle.wasm_grammar.specs.Reading.{Stream}
use Rattle.wasm_io.specs.Calls.{Change, Device, bytes_of, device_of, output_failed}
use Rattle.wasm_io.specs.declared.devices.ListError.{ListError}
use Rattle.wasm_io.specs.declared.devices.ListError.TheVariants.{Input, Output, Memory}
use Rattle.wasm_io.specs.declared.devices.sink.Sink.{Ghosts as SinkOf}
use Rattle.wasm_io.specs.declared.devices.source.Source.{Ghosts as SourceOf}
use Rattle.wasm_streams.specs.declared.turns.Ended.{Ended}
use Rattle.wasm_streams.specs.declared.turns.Ended.TheVariants.{End, Fault}
use Rattle.wasm_edits.specs.EditStream.{EditsSource}
use Rattle.wasm_edits.specs.Edited.{IsEdited}
use Rattle.wasm_edits.specs.Stripped.{EndsWithFault}
use Rattle.wasm_edits.specs.declared.edits.Edit.{Edit}
use Rattle.wasm_console.specs.Devices.{IsUntouched}
use Rattle.wasm_console.specs.Strips.{ReadsAll}
use Rattle.wasm_commands.specs.ArgumentLists.{Read, last_value}
use Rattle.wasm_commands.specs.Parsing.{text_if_any}
use Rattle.wasm_commands.specs.Messages.{terminal_text}
use Rattle.wasm_commands.specs.Runs.{Fails, FailsToWrite, RefusesFor, Run, Stops, StopsAtFault, Then, output_of}
use Rattle.wasm_commands.specs.declared.options.Flag.TheVariants as option
use Rattle.wasm_commands.specs.declared.reasons.Cause.{Cause}
use Rattle.wasm_commands.specs.declared.rewriting.Original.{Original}
use Rattle.wasm_commands.specs.declared.rewriting.twice.Reopened.{Reopened}
use Rattle.wasm_commands.specs.declared.rewriting.Way.{Way}
use Rattle.wasm_commands.specs.declared.system.System.{Ghosts as SystemOf}

-- ---- how a run over a stream ends

-- The command goes on after the end of a stream, and stops at its fault, or if the run failed.
abbrev pub EndsRun : {S : Type 0} → (name : List ℕ) → Result Ended ListError → Result (Unit {0}) ℕ → (old new : Run S)
    → Type 0
EndsRun name (Ok End) result old new = (result ≡ Ok tt) × (new ≡ old)
EndsRun name (Ok (Fault e)) result old new = StopsAtFault name e result old new
EndsRun name (Err why) result old new = Fails name why result old new

-- At the end of a stream the output was flushed, or failed. After a fault or a failure nothing is done.
abbrev pub FlushesAtEnd : Result Ended ListError → (output : Device) (forwarded : Bool) → Result Ended ListError
    → Type 0
FlushesAtEnd (Ok End) output forwarded result =
    ((result ≡ Ok End) × (forwarded ≡ true) × (output.has_failed ≡ output.had_failed))
    ⊎ ((result ≡ Err Output) × (output.has_failed ≡ true))
FlushesAtEnd (Ok (Fault e)) output forwarded result = (result ≡ Ok (Fault e)) × IsUntouched output
FlushesAtEnd (Err why) output forwarded result = (result ≡ Err why) × IsUntouched output

-- ---- a stream in memory

-- What was written of an accepted stream: the edited one, or a prefix of it if the output failed. Nothing is written of
-- another stream, or if an allocation failed.
abbrev pub WritesHeld : List Edit → (stream : List ℕ) (output : Change) → Result Ended ListError → Type 0
WritesHeld edits stream output (Ok End) =
    (edited : List ℕ) × IsEdited edits stream edited × Appends output.before output.after edited
WritesHeld edits stream output (Ok (Fault e)) =
    (¬ IsAccepted stream) × EndsWithFault stream e × (output.after ≡ output.before)
WritesHeld edits stream output (Err Output) = (edited : List ℕ) × IsEdited edits stream edited
    × (n : ℕ) × Appends output.before output.after (take n edited)
WritesHeld edits stream output (Err Memory) = output.after ≡ output.before
WritesHeld edits stream output (Err Input) = ⊥

-- | a stream in memory that is edited and written
-- a stream in memory that was edited and written, and whether the output has failed
pub record EditsHeld (edits : List Edit) (stream : List ℕ) (output : Device) (how : Result Ended ListError) : Type 0
  where
    pub writes : WritesHeld edits stream (bytes_of output) how
    pub sink : output.has_failed ≡ output_failed how output.had_failed

-- | all of a stream that was written with edits: below 2^64 bytes it is accepted, and these are the bytes of the edited
--   one
-- All of the stream was written with the edits.
pub record WritesAll (edits : List Edit) (stream : List ℕ) (output : Device) : Type 0 where
  pub bytes : List ℕ
  pub is_edited : Stream stream 0 → IsEdited edits stream bytes
  pub wrote : Appends output.before output.after bytes

-- ---- bytes that are written as they are

-- The bytes were written, or a prefix of them since the device failed.
abbrev pub WritesBytes : (bytes : List ℕ) (output : Device) → (is_complete : Bool) → Type 0
WritesBytes bytes output true =
    Appends output.before output.after bytes × (output.has_failed ≡ output.had_failed)
WritesBytes bytes output false =
    ((n : ℕ) × Appends output.before output.after (take n bytes)) × (output.has_failed ≡ true)

-- Nothing was done but to the output.
pub record OnlyWrites {S : Type 0} (old new : Run S) : Type 0 where
  pub system : new.system ≡ old.system
  pub said : new.said ≡ old.said

-- the command goes on after all of them, and stops if the output failed
abbrev pub EndsBytes : {S : Type 0} → (is_complete : Bool) → Result (Unit {0}) ℕ → (old new : Run S) → Type 0
EndsBytes true result old new = (result ≡ Ok tt) × (new ≡ old)
EndsBytes false result old new = Fails (codes "-") Output result old new

-- | bytes that are written to the output and flushed; or the output fails, which is said
-- The bytes were written to the output and flushed, or the output failed, and this was said.
pub record WritesOut {S : Type 0} (bytes : List ℕ) (result : Result (Unit {0}) ℕ) (old new : Run S) : Type 0 where
  pub is_complete : Bool
  pub middle : Run S
  pub writes : WritesBytes bytes (output_of old middle) is_complete
  pub all : is_complete ≡ true → middle.forwarded ≡ true
  pub only : OnlyWrites old middle
  pub ends : EndsBytes is_complete result middle new

-- what a command does after it has written bytes to a file
abbrev pub EndsTarget : {S : Type 0} → (target : List ℕ) → (is_complete : Bool) → Result (Unit {0}) ℕ
    → (old new : Run S) → Type 0
EndsTarget target true result old new = (result ≡ Ok tt) × (new ≡ old)
EndsTarget target false result old new = FailsToWrite target result old new

-- ---- the file that is written

-- whether a stream was written to its end
abbrev pub is_whole : Result (Result Ended ListError) Cause → Bool
is_whole (Ok (Ok End)) = true
is_whole (Ok (Ok (Fault e))) = false
is_whole (Ok (Err why)) = false
is_whole (Err cause) = false

-- what a command does after it has written a stream to a file
abbrev pub EndsFile : {S : Type 0} → (name target : List ℕ) → Result (Result Ended ListError) Cause
    → Result (Unit {0}) ℕ → (old new : Run S) → Type 0
EndsFile name target (Ok (Ok how)) result old new = EndsRun name (Ok how) result old new
EndsFile name target (Ok (Err Input)) result old new = Fails name Input result old new
EndsFile name target (Ok (Err Memory)) result old new = Fails name Memory result old new
EndsFile name target (Ok (Err Output)) result old new = FailsToWrite target result old new
EndsFile name target (Err cause) result old new = RefusesFor name cause result old new

-- the file that the last value of `--output` names, where `-` is the output
abbrev pub file_named : Option (Option (List ℕ)) → Option (List ℕ)
file_named (Some (Some target)) = if bytes_eq target (codes "-") then None else Some target
file_named (Some None) = None
file_named None = None

abbrev pub target_in : List Read → Option (List ℕ)
target_in reads = file_named (last_value option.Output None reads)

-- where a command reads a stream, and the file that it writes, if that is not the output
pub record Route : Type 0 where
  pub name : List ℕ
  pub target : Option (List ℕ)

abbrev pub route : Way → Route
route way = record { name = way.name.now; target = text_if_any way.target }

-- the route from a file, by the arguments
abbrev pub route_from : (name : List ℕ) → List Read → Route
route_from name reads = record { name = name; target = target_in reads }

-- ---- sources and sinks as devices, by what their traits say of them

abbrev pub input_device : {I : Type 0} → SourceOf I → (old new : I) → Device
input_device sources old new = device_of sources.remaining sources.has_failed old new

abbrev pub sink_device : {O : Type 0} → SinkOf O → (old new : O) → Device
sink_device sinks old new = device_of sinks.taken sinks.has_failed old new

-- ---- a file that is read once to be checked, and again to be written

-- a device that drops what is written to it
abbrev pub dropped : Device
dropped = record { before = None; after = None; had_failed = false; has_failed = false }

-- what is done after the first reading: only a file without a fault is read again and written
abbrev pub GoesOnAs : List Edit → (checked : Result Ended ListError) → (second output : Device)
    → (how : Result Ended ListError) → Type 0
GoesOnAs edits (Ok End) second output how = EditsSource edits second output how
GoesOnAs edits (Ok (Fault e)) second output how = IsUntouched second × IsUntouched output × (how ≡ Ok (Fault e))
GoesOnAs edits (Err why) second output how = IsUntouched second × IsUntouched output × (how ≡ Err why)

-- | a file that is edited: it is read once to its end, and if there is no fault, again to be written
-- a file that was edited
pub record EditsTwice {I : Type 0} (sources : SourceOf I) (edits : List Edit) (old new : Reopened I) (output : Device)
    (how : Result Ended ListError) : Type 0 where
  pub checked : Result Ended ListError
  pub checks : EditsSource [] (input_device sources old.first new.first) dropped checked
  pub goes_on : GoesOnAs edits checked (input_device sources old.second new.second) output how

-- ---- the files of a system, by what its calls may return

-- What was written was flushed at its end, and the command goes on or stops.
pub record Forwards {S : Type 0} (name : List ℕ) (how : Result Ended ListError) (result : Result (Unit {0}) ℕ)
    (old new : Run S) : Type 0 where
  pub flushed : Result Ended ListError
  pub middle : Run S
  pub keeps : Keeps old.written.bytes middle.written.bytes
  pub flushes : FlushesAtEnd how (output_of old middle) middle.forwarded flushed
  pub only : OnlyWrites old middle
  pub ends : EndsRun name flushed result middle new

abbrev pub EndsOutput : {S : Type 0} → (name : List ℕ) → Result (Result Ended ListError) Cause → Result (Unit {0}) ℕ
    → (old new : Run S) → Type 0
EndsOutput name (Ok how) result old new = Forwards name how result old new
EndsOutput name (Err cause) result old new = RefusesFor name cause result old new

-- The command stops with a message if this is so, and otherwise goes on.
abbrev pub StopsIf : {S : Type 0} → (is_so : Bool) → (text : List ℕ) → Result (Unit {0}) ℕ → (old new : Run S) → Type 0
StopsIf true text result old new = Stops 2 text result old new
StopsIf false text result old new = (result ≡ Ok tt) × (new ≡ old)

module _ {S I O : Type 0} (calls : SystemOf S I O) where
  -- | a module that would be written to a terminal: the command says so, stops, and writes nothing
  -- Without a file to write, the system said whether the output is a terminal, and the command stops if it is one.
  abbrev pub SparesTerminal : (target : Option (List ℕ)) → Result (Unit {0}) ℕ → (old new : Run S) → Type 0
  SparesTerminal (Some target) result old new = (result ≡ Ok tt) × (new ≡ old)
  SparesTerminal None result old new =
      (is_terminal : Bool) × calls.shows old.system is_terminal × StopsIf is_terminal terminal_text result old new

  -- | a file that is opened, or refused with the system's reason
  -- The file was opened, or it was said why not.
  abbrev pub Opens : (name : List ℕ) → Result I ℕ → (old new : Run S) → Type 0
  Opens name (Ok input) old new = calls.opens old.system name (Ok input) × (new ≡ old)
  Opens name (Err status) old new = (cause : Cause) × calls.opens old.system name (Err cause)
      × RefusesFor {A = Unit {0}} name cause (Err status) old new

  -- | a file that is begun, to replace another one
  -- A file was created that is to replace the target, or it was said why not.
  abbrev pub Creates : (name target : List ℕ) → Result O ℕ → (old new : Run S) → Type 0
  Creates name target (Ok created) old new =
      calls.creates old.system name target (Ok created) new.system × (new ≡ record old { system = new.system })
  Creates name target (Err status) old new = (later : S) × (cause : Cause)
      × calls.creates old.system name target (Err cause) later
      × RefusesFor {A = Unit {0}} target cause (Err status) (record old { system = later }) new

  -- | a file that is replaced by what was written, if that is complete, and else discarded
  -- The target was replaced by what was written, or that was discarded, as it was complete or not; or it was said why
  -- not.
  abbrev pub Takes : (target : List ℕ) (written : O) (is_complete : Bool) → Result (Unit {0}) ℕ → (old new : Run S)
      → Type 0
  Takes target written is_complete (Ok done) old new =
      calls.replaces old.system written is_complete (Ok tt) new.system × (new ≡ record old { system = new.system })
  Takes target written is_complete (Err status) old new = (later : S) × (cause : Cause)
      × calls.replaces old.system written is_complete (Err cause) later
      × RefusesFor {A = Unit {0}} target cause (Err status) (record old { system = later }) new

  -- The target was replaced exactly if this is a success, and the command then ends as it was to.
  abbrev pub Closes : (target : List ℕ) (written : O) (is_complete : Bool) (ended : Result (Unit {0}) ℕ)
      → Result (Unit {0}) ℕ → (old new : Run S) → Type 0
  Closes target written is_complete ended =
      Then (Takes target written is_complete) (λ done result old new. (result ≡ ended) × (new ≡ old))

module _ {S I O : Type 0} (calls : SystemOf S I O) (sources : SourceOf I) where
  -- The file was opened, and these are all bytes that it had.
  pub record Gave (system : S) (name bytes : List ℕ) : Type 0 where
    pub opened : I
    pub rest : I
    pub opens : calls.opens system name (Ok opened)
    pub gave : Consumes (sources.remaining opened) (sources.remaining rest) bytes
    pub at_end : IsAtEnd (sources.remaining rest)

  -- The file was opened, but reading all of it failed, or an allocation.
  pub record CannotRead (name : List ℕ) (status : ℕ) (old new : Run S) : Type 0 where
    pub opened : I
    pub rest : I
    pub why : ListError
    pub opens : calls.opens old.system name (Ok opened)
    pub reads : ReadsAll {A = Global} (sources.remaining opened) (sources.remaining rest) (Err why)
    pub fails : Fails {A = Unit {0}} name why (Err status) old new

  -- | a file that is read into memory
  -- The file was read into memory, or could not be opened, or not be read.
  abbrev pub Holds : (name : List ℕ) → Result (Vec ℕ Global) ℕ → (old new : Run S) → Type 0
  Holds name (Ok bytes) old new = Gave old.system name bytes.items × (new ≡ old)
  Holds name (Err status) old new = Opens calls name (Err status) old new ⊎ CannotRead name status old new

  -- the stream of a file, of which nothing was checked yet
  pub record IsOriginal (from : Route) (original : Original) : Type 0 where
    pub routed : route original.way ≡ from
    pub unchecked : original.is_checked ≡ false

  -- what is held of a stream that is to be changed: nothing if it can be read again, else all of it
  abbrev pub IsHeld : (name : List ℕ) → Option (Vec ℕ Global) → (old new : Run S) → Type 0
  IsHeld name None old new = calls.rereads old.system name true × (new ≡ old)
  IsHeld name (Some held) old new = calls.rereads old.system name false × Holds name (Ok held) old new

  -- | the stream that is to be changed: a file that can be read again, or what was read of another one
  -- The stream to change was found, or could not be read.
  abbrev pub Finds : Route → Result Original ℕ → (old new : Run S) → Type 0
  Finds from (Ok original) old new = IsOriginal from original × IsHeld from.name original.held old new
  Finds from (Err status) old new = calls.rereads old.system from.name false × Holds from.name (Err status) old new

  -- The file was opened once, and read while it was written with edits.
  pub record EditsOpened (system : S) (edits : List Edit) (name : List ℕ) (output : Device)
      (how : Result Ended ListError) : Type 0 where
    pub opened : I
    pub rest : I
    pub opens : calls.opens system name (Ok opened)
    pub writes : EditsSource edits (input_device sources opened rest) output how

  -- The file was opened twice: it was read to be checked, and again while it was written with edits.
  pub record EditsReopened (system : S) (edits : List Edit) (name : List ℕ) (output : Device)
      (how : Result Ended ListError) : Type 0 where
    pub opened : Reopened I
    pub rest : Reopened I
    pub opens : calls.opens system name (Ok opened.first)
    pub reopens : calls.opens system name (Ok opened.second)
    pub writes : EditsTwice sources edits opened rest output how

  -- a file that was opened, by whether it was checked before
  abbrev pub EditsFile : (system : S) (edits : List Edit) (name : List ℕ) (is_checked : Bool) (output : Device)
      → Result Ended ListError → Type 0
  EditsFile system edits name true output how = EditsOpened system edits name output how
  EditsFile system edits name false output how = EditsReopened system edits name output how

  -- a stream that is edited, by what is held of it
  abbrev pub EditsBy : (system : S) (edits : List Edit) (original : Original) → Option (Vec ℕ Global)
      → (output : Device) → Result Ended ListError → Type 0
  EditsBy system edits original (Some held) output how = EditsHeld edits held.items output how
  EditsBy system edits original None output how =
      EditsFile system edits original.way.name.now original.is_checked output how

  -- The file was opened, and these are bytes that it gave.
  pub record GaveSome (system : S) (name bytes : List ℕ) : Type 0 where
    pub opened : I
    pub rest : I
    pub opens : calls.opens system name (Ok opened)
    pub gave : Consumes (sources.remaining opened) (sources.remaining rest) bytes

  -- these are the bytes of a stream, by what is held of it
  abbrev pub IsStreamOf : (system : S) (name : List ℕ) → Option (Vec ℕ Global) → (stream : List ℕ) → Type 0
  IsStreamOf system name (Some held) stream = stream ≡ held.items
  IsStreamOf system name None stream = GaveSome system name stream

  -- All of the stream was written with the edits.
  pub record IsWritten (system : S) (edits : List Edit) (original : Original) (output : Device) : Type 0 where
    pub stream : List ℕ
    pub given : IsStreamOf system original.way.name.now original.held stream
    pub written : WritesAll edits stream output

  -- | a stream that is edited and written: the bytes that are held of it, or its file, which is read again
  -- a stream that was edited and written, or that it could not be opened
  abbrev pub EditsOriginal : (system : S) (edits : List Edit) (original : Original) (output : Device)
      → Result (Result Ended ListError) Cause → Type 0
  EditsOriginal system edits original output (Ok how) = EditsBy system edits original original.held output how
  EditsOriginal system edits original output (Err cause) =
      (original.held ≡ None) × calls.opens system original.way.name.now (Err cause) × IsUntouched output

  -- The stream was written to the output with edits, and flushed.
  pub record EditsOut (edits : List Edit) (original : Original) (result : Result (Unit {0}) ℕ) (old new : Run S)
      : Type 0 where
    pub middle : Run S
    pub edited : Result (Result Ended ListError) Cause
    pub writes : EditsOriginal old.system edits original (output_of old middle) edited
    pub only : OnlyWrites old middle
    pub ends : EndsOutput original.way.name.now edited result middle new

module _ {S I O : Type 0} (calls : SystemOf S I O) (sources : SourceOf I) (sinks : SinkOf O) where
  -- | a file that is replaced: a new file was created and received what is written of the stream. The target was
  --   replaced by it exactly if the stream was written to its end. Otherwise the new file was discarded
  -- A created file received what is written of the stream, and took the place of the target exactly if that is all.
  pub record Replaces (edits : List Edit) (original : Original) (target : List ℕ) (created : O)
      (result : Result (Unit {0}) ℕ) (old new : Run S) : Type 0 where
    pub written : O
    pub edited : Result (Result Ended ListError) Cause
    pub writes : EditsOriginal calls sources old.system edits original
        (sink_device sinks created written) edited
    pub whole : is_whole edited ≡ true
        → IsWritten calls sources old.system edits original (sink_device sinks created written)
    pub middle : Run S
    pub ended : Result (Unit {0}) ℕ
    pub ends : EndsFile original.way.name.now target edited ended old middle
    pub closes : Closes calls target written (is_whole edited) ended result middle new

  abbrev pub EditsTarget : (edits : List Edit) (original : Original) (target : List ℕ) → Result (Unit {0}) ℕ
      → (old new : Run S) → Type 0
  EditsTarget edits original target = Then (Creates calls original.way.name.now target) (Replaces edits original target)

  -- by the file that is written
  abbrev pub EditsAs : (edits : List Edit) (original : Original) → Option (List ℕ) → Result (Unit {0}) ℕ
      → (old new : Run S) → Type 0
  EditsAs edits original (Some target) = EditsTarget edits original target
  EditsAs edits original None = EditsOut calls sources edits original

  -- | a stream that is written with edits to a file, or to the output [`EditsAs`]
  abbrev pub EditsTo : (edits : List Edit) (original : Original) → Result (Unit {0}) ℕ → (old new : Run S) → Type 0
  EditsTo edits original = EditsAs edits original (text_if_any original.way.target)

  -- | a file that is edited
  abbrev pub Changes : (edits : List Edit) → Route → Result (Unit {0}) ℕ → (old new : Run S) → Type 0
  Changes edits from = Then (Finds calls sources from) (EditsTo edits)

module _ {S I O : Type 0} (calls : SystemOf S I O) (sinks : SinkOf O) where
  -- | a file that is replaced by these bytes, exactly if all of them were written
  -- A created file received the bytes, and took the place of the target exactly if all were written.
  pub record ReplacesBytes (bytes target : List ℕ) (created : O) (result : Result (Unit {0}) ℕ) (old new : Run S)
      : Type 0 where
    pub written : O
    pub is_complete : Bool
    pub writes : WritesBytes bytes (sink_device sinks created written) is_complete
    pub middle : Run S
    pub ended : Result (Unit {0}) ℕ
    pub ends : EndsTarget target is_complete ended old middle
    pub closes : Closes calls target written is_complete ended result middle new

  abbrev pub WritesFile : (bytes name target : List ℕ) → Result (Unit {0}) ℕ → (old new : Run S) → Type 0
  WritesFile bytes name target = Then (Creates calls name target) (ReplacesBytes bytes target)

  abbrev pub WritesBy : (bytes name : List ℕ) → Option (List ℕ) → Result (Unit {0}) ℕ → (old new : Run S) → Type 0
  WritesBy bytes name (Some target) = WritesFile bytes name target
  WritesBy bytes name None = WritesOut bytes

  -- | bytes that are written to a file, or to the output
  abbrev pub WritesTo : (bytes : List ℕ) → Route → Result (Unit {0}) ℕ → (old new : Run S) → Type 0
  WritesTo bytes route = WritesBy bytes route.name route.target
