-- The listing of a stream while it is read.
use Rattle.std.specs.Prelude.{ℕ, Bool, List, Option, Result, Ok, Err}
use Rattle.wasm_streams.specs.Lists.{ListsBy, listing_by}
use Rattle.wasm_streams.specs.Turns.{text_after}
use Rattle.wasm_streams.specs.Step.{Told}
use Rattle.wasm_streams.specs.Writers.{RunEnds, Writer}
use Rattle.wasm_streams.specs.declared.turns.Ended.{Ended}
use Rattle.wasm_lines.specs.Listing.{line_of}
use Rattle.wasm_io.specs.Calls.{Change, Device}
use Rattle.wasm_io.specs.Page.{IsCut, PutsBytes}
use Rattle.wasm_io.specs.declared.devices.ListError.{ListError}

-- the line that is written after a step
abbrev pub line_after : Told → List ℕ
line_after answer = text_after line_of answer

-- | what a listing does after a step, and what one read did; how it reads on, past a part that it
--   skips [`Lists.Refills`; `Progress.ReadsOnAnywhere`, `Dropping.DropsHere`]
-- The line of the step was appended to the pending ones.
abbrev pub TakesTurn : (taken written : Option (List ℕ)) (waiting new : List ℕ) → Told
    → Result (Unit {0}) ListError → Type 0
TakesTurn taken written waiting new answer (Ok done) =
    PutsBytes taken written waiting (line_after answer) new
TakesTurn taken written waiting new answer (Err e) = IsCut taken written waiting e

-- what a listing of a source has written at each of its ends
abbrev pub Lists : (input output : Change) → Result Ended ListError → Type 0
Lists input output how = ListsBy line_of input output how

-- | what a listing has written: all lines of the reading of what the source returned, which is that of its whole
--   input; all but the last if the source failed; otherwise a prefix. A listing by any text of what is reported
--   [`Lists`; `Lists.ListsBy`, `IsListed`, `IsWhole`, `IsAllButLast`, `IsHead`; `listing_by`]
-- A whole listing: what it wrote of what the source gave, and whether each device has failed.
abbrev pub ListsSource : (input output : Device) → Result Ended ListError → Type 0
ListsSource input output how = RunEnds (λ i o result. Lists i o result) input output how

-- a visitor that lists, with this page, over a sink that has taken this
abbrev pub lister : {V W : Type 0} → (page : V → List ℕ) (taken : W → Option (List ℕ)) (failed : W → Bool)
    → Writer V W (Unit {0})
lister page taken failed = record {
  by = λ v. tt;
  page = page;
  taken = taken;
  failed = failed;
  text = λ by events. listing_by line_of events;
  ends = λ by input output how. Lists input output how;
}
