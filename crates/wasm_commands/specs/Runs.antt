-- What a run of a command has done, and steps that follow one another.
use Rattle.std.specs.Prelude.{◌≡◌, ◌⊎◌, ℕ, max, Bool, List, [], ◌∷◌, codes, Option, Result, Ok, Err}
use Rattle.std.specs.declared.alloc.AllocError.{AllocError}
use Rattle.wasm_base.specs.FaultAt.{fault_at}
use Rattle.wasm_base.specs.declared.error.Error.{Error}
use Rattle.wasm_io.specs.Calls.{Device}
use Rattle.wasm_io.specs.Messages.{Says}
use Rattle.wasm_io.specs.declared.devices.sink.WriteSink.{WriteSink}
use Rattle.wasm_io.specs.declared.devices.ListError.{ListError}
use Rattle.wasm_commands.specs.Messages.{failure_text, fault_text, file_text, reason_if_any}
use Rattle.wasm_commands.specs.Reasons.{reason_of}
use Rattle.wasm_commands.specs.declared.messages.Causes.{Causes}
use Rattle.wasm_commands.specs.declared.reasons.Cause.{Cause}

-- what a device has taken, and whether it has failed
pub record Taken : Type 0 where
  pub bytes : Option (List ℕ)
  pub failed : Bool

-- | a run: the system after its calls, what was written, whether that was forwarded, and what was said
-- what a run has done
pub record Run (S : Type 0) : Type 0 where
  pub system : S
  pub written : Taken
  pub forwarded : Bool
  pub said : Taken

-- the run of a system and two devices
abbrev pub run_of : {S W E : Type 0} → (contents : W → Option (List ℕ)) (taken : E → Option (List ℕ))
    (failed : E → Bool) → (system : S) (output : WriteSink W) (errors : E) → Run S
run_of contents taken failed system output errors = record {
  system = system;
  written = record { bytes = contents output.writer; failed = output.failed };
  forwarded = output.forwarded;
  said = record { bytes = taken errors; failed = failed errors };
}

abbrev pub device_between : (old new : Taken) → Device
device_between old new = record {
  before = old.bytes;
  after = new.bytes;
  had_failed = old.failed;
  has_failed = new.failed;
}

-- | the devices of a run, from one moment to another
-- the output and the messages between two moments
abbrev pub output_of : {S : Type 0} → (old new : Run S) → Device
output_of old new = device_between old.written new.written

abbrev pub errors_of : {S : Type 0} → (old new : Run S) → Device
errors_of old new = device_between old.said new.said

-- | a step after another one: it is done if the first one does not stop the command
-- One step after the other, unless the first one stops the command.
abbrev pub Then : {R A B : Type 0} → (first : Result A ℕ → (old new : R) → Type 0)
    → (later : A → Result B ℕ → (old new : R) → Type 0) → Result B ℕ → (old new : R) → Type 0
Then {R} {A} first later result old new =
    ((a : A) × (middle : R) × first (Ok a) old middle × later a result middle new)
    ⊎ ((status : ℕ) × (result ≡ Err status) × first (Err status) old new)

-- | an exit status: 0 unless the command stopped
-- the exit status of a command: 0 unless it stopped
abbrev pub status_in : Result (Unit {0}) ℕ → ℕ
status_in (Ok done) = 0
status_in (Err status) = status

-- First this was done, and then that, also after a refusal. The status is the greater one.
pub record BothInTurn {R : Type 0} (first : Result (Unit {0}) ℕ → (old new : R) → Type 0)
    (later : (status : ℕ) → (old new : R) → Type 0) (status : ℕ) (old new : R) : Type 0 where
  pub result : Result (Unit {0}) ℕ
  pub rest : ℕ
  pub middle : R
  pub does_first : first result old middle
  pub does_later : later rest middle new
  pub greatest : status ≡ max (status_in result) rest

-- | several files or words, each in turn, and the greatest status [`BothInTurn`, `named_files`]
-- Each of these was taken in turn, as `one` says of it, and the status is the greatest one.
abbrev pub InTurn : {R : Type 0} → (one : (name : List ℕ) → Result (Unit {0}) ℕ → (old new : R) → Type 0)
    → (names : List (List ℕ)) → (status : ℕ) → (old new : R) → Type 0
InTurn one [] status old new = (status ≡ 0) × (new ≡ old)
InTurn one (name ∷ names) status old new = BothInTurn (one name) (InTurn one names) status old new

-- the files that operands name: standard input if there are none
abbrev pub named_files : (operands : List (List ℕ)) → List (List ℕ)
named_files [] = codes "-" ∷ []
named_files (name ∷ names) = name ∷ names

-- ---- messages

-- | a message, and nothing else
-- This was said, and nothing else was done.
pub record Tells {S : Type 0} (text : List ℕ) (old new : Run S) : Type 0 where
  pub says : Says (errors_of old new) text
  pub rest : new ≡ record old { said = new.said }

-- | a command that stops with a status and a message
-- The command stops with this status, and says this.
pub record Stops {S A : Type 0} (status : ℕ) (text : List ℕ) (result : Result A ℕ) (old new : Run S) : Type 0 where
  pub answers : result ≡ Err status
  pub tells : Tells text old new

-- It stops at a fault of the file.
abbrev pub StopsAtFault : {S A : Type 0} → (name : List ℕ) (e : Error) → Result A ℕ → (old new : Run S) → Type 0
StopsAtFault name e result old new = Stops 1 (fault_text name (fault_at e)) result old new

-- It stops since the file can't be used, for this reason.
abbrev pub RefusesFor : {S A : Type 0} → (name : List ℕ) (cause : Cause) → Result A ℕ → (old new : Run S) → Type 0
RefusesFor name cause result old new = Stops 3 (file_text name (reason_of cause)) result old new

-- It stops since reading the file, the output or an allocation failed. The system may have said why.
pub record Fails {S A : Type 0} (name : List ℕ) (why : ListError) (result : Result A ℕ) (old new : Run S) : Type 0
  where
    pub causes : Causes
    pub stops : Stops 3 (failure_text name why causes) result old new

-- It stops since a file could not be written. The system may have said why.
pub record FailsToWrite {S A : Type 0} (target : List ℕ) (result : Result A ℕ) (old new : Run S) : Type 0 where
  pub causes : Causes
  pub stops : Stops 3 (file_text target (reason_if_any causes.output)) result old new

-- It stops since memory ran out.
abbrev pub RunsOut : {S A : Type 0} → Result A ℕ → (old new : Run S) → Type 0
RunsOut result old new = Stops 3 (codes "pulleynavy: out of memory\n") result old new

-- | what a command allocates before it reads a file; it stops if memory runs out
-- What was allocated is given, or memory ran out.
abbrev pub Allocates : {S A : Type 0} → Result A AllocError → Result A ℕ → (old new : Run S) → Type 0
Allocates (Ok a) result old new = (result ≡ Ok a) × (new ≡ old)
Allocates (Err refused) result old new = RunsOut result old new

-- This was allocated, or memory ran out.
abbrev pub Makes : {S A : Type 0} → (has : A → Type 0) → Result A ℕ → (old new : Run S) → Type 0
Makes has (Ok a) old new = has a × (new ≡ old)
Makes has (Err status) old new = RunsOut {A = Unit {0}} (Err status) old new

-- The command may have stopped since memory ran out.
abbrev pub Allots : {S A : Type 0} → Result A ℕ → (old new : Run S) → Type 0
Allots (Ok a) old new = new ≡ old
Allots (Err status) old new = RunsOut {A = Unit {0}} (Err status) old new

-- What was read of a file is given, or its fault is said.
abbrev pub IsSound : {S A : Type 0} → (name : List ℕ) → Result A Error → Result A ℕ → (old new : Run S) → Type 0
IsSound name (Ok a) result old new = (result ≡ Ok a) × (new ≡ old)
IsSound name (Err e) result old new = StopsAtFault name e result old new
