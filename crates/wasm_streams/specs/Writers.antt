-- A visitor that puts a text of the events of a stream on a page.
use Rattle.std.specs.Prelude.{◌≡◌, ℕ, Bool, List, Option, Result, Ok, Err}
use Rattle.std.specs.Io.KnownBytes.{Appends}
use Rattle.wasm_streams.specs.Feed.{Feed}
use Rattle.wasm_streams.specs.Progress.{Progress}
use Rattle.wasm_streams.specs.Visits.{Stages}
use Rattle.wasm_streams.specs.declared.turns.Ended.{Ended}
use Rattle.wasm_grammar.specs.Reading.{Event}
use Rattle.wasm_io.specs.Calls.{Change, Device, bytes_of, device_of, from_to, input_failed, output_failed}
use Rattle.wasm_io.specs.Page.{IsCut}
use Rattle.wasm_io.specs.declared.devices.ListError.{ListError}

-- | a visitor that puts a text of the events on a page, what is so of it at each stage of a run, and what the run did
--   to its devices [`Writer`, `writer_stages`, `RunEnds`]
-- What it writes by, its page, the bytes that its sink has taken, and whether that has failed; the text of events; and
-- what a run has written at its end.
pub record Writer (V W K : Type 0) : Type 1 where
  pub by : V → K
  pub page : V → List ℕ
  pub taken : W → Option (List ℕ)
  pub failed : W → Bool
  pub text : K → List Event → List ℕ
  pub ends : K → (input output : Change) → Result Ended ListError → Type 0

-- what a run has written at its end, and whether each device has failed
pub record RunEnds (ends_as : (input output : Change) → Result Ended ListError → Type 0) (input output : Device)
    (how : Result Ended ListError) : Type 0 where
  pub ends : ends_as (bytes_of input) (bytes_of output) how
  pub source : input.has_failed ≡ input_failed how input.had_failed
  pub sink : output.has_failed ≡ output_failed how output.had_failed

module _ {V W K : Type 0} (w : Writer V W K) (first : V) (start : W) (input : Device) where
  -- what the sink took up to here
  abbrev pub output : Option (List ℕ) → Change
  output written = from_to (w.taken start) written

  -- The text of the events so far is written or waits on the page, and the sink has not failed.
  pub record Going (f : Feed) (now : V) (out : W) : Type 0 where
    pub progress : Progress (w.text (w.by first)) (bytes_of input) (output (w.taken out)) f (w.page now)
    pub same : w.by now ≡ w.by first
    pub sink : w.failed out ≡ w.failed start

  -- Once what waits is written, the run ends so.
  pub record Ending (how : Ended) (now : V) (out : W) : Type 0 where
    pub whole : (written : Option (List ℕ)) → Appends (w.taken out) written (w.page now)
        → w.ends (w.by first) (bytes_of input) (output written) (Ok how)
    pub cut : (written : Option (List ℕ)) (e : ListError) → IsCut (w.taken out) written (w.page now) e
        → w.ends (w.by first) (bytes_of input) (output written) (Err e)
    pub sink : w.failed out ≡ w.failed start

-- the stages of a run by a writer
abbrev pub writer_stages : {V W K : Type 0} → Writer V W K → Stages V W
writer_stages w = record {
  going = λ first start input f now out. Going w first start input f now out;
  ending = λ first start input how now out. Ending w first start input how now out;
  done = λ first start input result out.
      RunEnds (w.ends (w.by first)) input (device_of w.taken w.failed start out) result;
}
