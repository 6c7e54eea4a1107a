-- What a run of the program does.
use Rattle.std.specs.Prelude.{◌≡◌, ◌⊎◌, ℕ, Bool, List, codes, map, string_bytes, Option, Some, None, Result, Ok, Err}
use Rattle.wasm_io.specs.Calls.{Device, bytes_of, input_failed, output_failed}
use Rattle.wasm_io.specs.Messages.{Says, complaint_of}
use Rattle.wasm_io.specs.declared.devices.ListError.{ListError}
use Rattle.wasm_lines.specs.ListStream.{Lists, ListsSource}
use Rattle.wasm_edits.specs.Fates.{custom_stays}
use Rattle.wasm_streams.specs.declared.turns.Ended.{Ended}
use Rattle.wasm_console.specs.Devices.{over, Follows}
use Rattle.wasm_console.specs.Endings.{status_for, ReportsEnd, RunsUsage, CannotBegin, FlushesOutput, FailsToFlush}
use Rattle.wasm_console.specs.Endings.{Finishes}
use Rattle.wasm_console.specs.Strips.{AnswersAs, StripsInput}
use Rattle.wasm_console.specs.declared.arguments.Given.{Given}
use Rattle.wasm_console.specs.declared.arguments.Given.TheVariants.{Words, NotUtf8, Nothing}
use Rattle.wasm_list.specs.ListCommands.{Asked, asked_by, listing, stripping, unknown}
use Rattle.std.specs.Prelude.{false}

abbrev pub usage : List ℕ
usage = codes "usage: wasm_list [strip]\n"

-- a run whose listing ended so
pub record RunsListingAs (how : Result Ended ListError) (input output errors : Device) (status : ℕ) : Type 0 where
  pub lists : ListsSource input output how
  pub answers : status ≡ status_for how
  pub reports : ReportsEnd how errors

-- a run that listed its input
pub record RunsListing (input output errors : Device) (status : ℕ) : Type 0 where
  pub how : Result Ended ListError
  pub runs : RunsListingAs how input output errors status

-- a run that stripped its input of all custom sections
pub record RunsStripping (input output errors : Device) (status : ℕ) : Type 0 where
  pub how : Result Ended ListError
  pub strips : StripsInput (custom_stays false) input output how
  pub answers : AnswersAs how errors status

-- | what a run of `wasm_list` does, also with the program's own name and arguments that might not be available
--   [`RunsListProgram`, `RunsThenFlushes`]
-- a run that was asked for this
pub record Runs (asked : Asked) (input output errors : Device) (status : ℕ) : Type 0 where
  pub lists : asked ≡ listing → RunsListing input output errors status
  pub strips : asked ≡ stripping → RunsStripping input output errors status
  pub refuses : asked ≡ unknown → RunsUsage usage input output errors status

-- a listing that failed, with its reason
pub record GivesUp (why : ListError) (output errors : Device) (status : ℕ) : Type 0 where
  pub answers : status ≡ 3
  pub sink : output.has_failed ≡ output_failed {A = Ended} (Err why) output.had_failed
  pub says : Says errors (complaint_of why)

-- The end of a run whose listing ended so: the listing is flushed before the status is 0 or 1.
abbrev pub EndsAs : Result Ended ListError → (forwarded : Bool) (output errors : Device) (status : ℕ) → Type 0
EndsAs (Ok how) forwarded output errors status =
    FlushesOutput (status_for (Ok how)) forwarded output errors status ⊎ FailsToFlush output errors status
EndsAs (Err why) forwarded output errors status = GivesUp why output errors status

-- the whole program, where it lists its input
pub record ListsAll (forwarded : Bool) (input output errors : Device) (status : ℕ) : Type 0 where
  pub how : Result Ended ListError
  pub lists : Lists (bytes_of input) (bytes_of output) how
  pub source : input.has_failed ≡ input_failed how input.had_failed
  pub ends : EndsAs how forwarded output errors status

-- the whole program, where this is what it runs: what was written is flushed after a status of 0 or 1
pub record RunsThenFlushes (runs : (output errors : Device) (status : ℕ) → Type 0) (forwarded : Bool)
    (output errors : Device) (status : ℕ) : Type 0 where
  pub written : Device
  pub passes_on : Device
  pub said : Device
  pub said_last : Device
  pub first : ℕ
  pub follows : Follows written passes_on × Follows said said_last
  pub devices : (output ≡ over written passes_on) × (errors ≡ over said said_last)
  pub ran : runs written said first
  pub ends : Finishes first forwarded passes_on said_last status

-- the whole program, which was asked for this
pub record RunsWhole (asked : Asked) (forwarded : Bool) (input output errors : Device) (status : ℕ) : Type 0 where
  pub lists : asked ≡ listing → ListsAll forwarded input output errors status
  pub strips : asked ≡ stripping → RunsThenFlushes (RunsStripping input) forwarded output errors status
  pub refuses : asked ≡ unknown → RunsUsage usage input output errors status

-- the whole program, by what was stored of its arguments
abbrev pub RunsGivenList : Given → (forwarded : Bool) (input output errors : Device) (status : ℕ) → Type 0
RunsGivenList (Words words) forwarded input output errors status =
    RunsWhole (asked_by (map string_bytes words.items)) forwarded input output errors status
RunsGivenList NotUtf8 forwarded input output errors status = RunsWhole unknown forwarded input output errors status
RunsGivenList Nothing forwarded input output errors status = CannotBegin input output errors status

-- The whole program, which was asked for this if the arguments could be fetched, or one was not UTF-8; or an allocation
-- failed before that was known.
abbrev pub RunsListProgram : Option Asked → (needs_memory : Type 0) (forwarded : Bool) (input output errors : Device)
    (status : ℕ) → Type 0
RunsListProgram (Some asked) needs_memory forwarded input output errors status =
    RunsWhole asked forwarded input output errors status ⊎ (needs_memory × CannotBegin input output errors status)
RunsListProgram None needs_memory forwarded input output errors status = CannotBegin input output errors status
