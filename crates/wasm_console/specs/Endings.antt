-- How a run of a program ends, and what it says.
use Rattle.std.specs.Prelude.{◌≡◌, ◌⊎◌, ℕ, ◌<◌, ◌≤◌, Bool, true, List, Result, Ok, Err}
use Rattle.std.specs.Io.KnownBytes.{Keeps}
use Rattle.wasm_io.specs.Calls.{Device}
use Rattle.wasm_streams.specs.declared.turns.Ended.{Ended}
use Rattle.wasm_streams.specs.declared.turns.Ended.TheVariants.{End, Fault}
use Rattle.wasm_io.specs.declared.devices.ListError.{ListError}
use Rattle.wasm_io.specs.declared.devices.ListError.TheVariants.{Output, Memory}
use Rattle.wasm_console.specs.Devices.{IsUntouched}
use Rattle.wasm_io.specs.Messages.{Says, complaint_of}

-- | how a run ends: the exit status, what it prints, and what the output has forwarded; a run that refuses its
--   arguments, or cannot begin [`ReportsEnd`, `Finishes`, `RunsUsage`, `CannotBegin`]
-- the exit status of a run that went along a stream
abbrev pub status_for : Result Ended ListError → ℕ
status_for (Ok End) = 0
status_for (Ok (Fault e)) = 1
status_for (Err e) = 3

-- the message of such a run: none, or why it failed
abbrev pub ReportsEnd : Result Ended ListError → Device → Type 0
ReportsEnd (Ok how) errors = IsUntouched errors
ReportsEnd (Err e) errors = Says errors (complaint_of e)

-- a run that refused its arguments, saying how the program is used, and left its input and output alone
pub record RunsUsage (usage : List ℕ) (input output errors : Device) (status : ℕ) : Type 0 where
  pub source : IsUntouched input
  pub sink : IsUntouched output
  pub answers : status ≡ 2
  pub says : Says errors usage

-- No memory was left to begin with: this was said, and input and output were left alone.
pub record CannotBegin (input output errors : Device) (status : ℕ) : Type 0 where
  pub source : IsUntouched input
  pub sink : IsUntouched output
  pub answers : status ≡ 3
  pub says : Says errors (complaint_of Memory)

-- The run failed, with its message.
pub record GivesUpAs (why : ListError) (errors : Device) (status : ℕ) : Type 0 where
  pub answers : status ≡ 3
  pub says : Says errors (complaint_of why)

-- The output was flushed, there is no message, and the status stays.
pub record FlushesOutput (status : ℕ) (forwarded : Bool) (output errors : Device) (result : ℕ) : Type 0 where
  pub answers : result ≡ status
  pub all : forwarded ≡ true
  pub sink : output.has_failed ≡ output.had_failed
  pub silent : IsUntouched errors

-- Flushing the output failed: there is a message, and the status is 3.
pub record FailsToFlush (output errors : Device) (result : ℕ) : Type 0 where
  pub answers : result ≡ 3
  pub sink : output.has_failed ≡ true
  pub says : Says errors (complaint_of Output)

-- nothing was done, and the status stays
pub record LeavesAlone (status : ℕ) (output errors : Device) (result : ℕ) : Type 0 where
  pub answers : result ≡ status
  pub sink : IsUntouched output
  pub silent : IsUntouched errors

-- The end of a run: after a status of 0 or 1 the output is flushed.
pub record Finishes (status : ℕ) (forwarded : Bool) (output errors : Device) (result : ℕ) : Type 0 where
  pub keeps : Keeps output.before output.after
  pub ended : status < 2 → FlushesOutput status forwarded output errors result ⊎ FailsToFlush output errors result
  pub given_up : 2 ≤ status → LeavesAlone status output errors result
