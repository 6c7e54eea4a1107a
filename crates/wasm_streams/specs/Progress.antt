-- The progress of a caller that reads a stream by a feeder, and writes a text of its events.
use Rattle.std.specs.Prelude.{◌≡◌, ℕ, ◌+◌, ◌-◌, ◌<◌, ◌^◌, true, List, [], length, if◌then◌else◌, Option, Some, None}
use Rattle.std.specs.Prelude.{Result, Ok, Err}
use Rattle.std.specs.Io.KnownBytes.{Consumes, IsAtEnd}
use Rattle.wasm_frames.specs.Along.{Along}
use Rattle.wasm_frames.specs.GivesNextEvent.{IsUndecided}
use Rattle.wasm_grammar.specs.Reading.{Report, Event}
use Rattle.wasm_base.specs.declared.error.Error.{Error}
use Rattle.wasm_io.specs.Calls.{Change, from_to}
use Rattle.wasm_io.specs.Page.{PutsBytes}
use Rattle.wasm_io.specs.declared.devices.ListError.{ListError}
use Rattle.wasm_streams.specs.Feed.{Feed}
use Rattle.wasm_streams.specs.Lists.{IsListed, ListsBy, listing_by}
use Rattle.wasm_streams.specs.declared.turns.Ended.TheVariants.{Fault}
use Rattle.wasm_base.specs.Features.{all_features}

-- a bound on the remaining work: bytes to consume, bytes to read, and the end to report
abbrev pub weight : Feed → ℕ
weight f = (2 ^ 64 - f.state.offset) + ((2 ^ 64 - (f.state.offset + length f.held)) + (if f.eof then 0 else 1))

-- | where a feeder is along what a source gave, and where it asks for more; what a caller that writes a text of the
--   events has written [`Asks`; `Progress.Progress`, `Wants`]
-- Where a feeder is along what a source gave, after these events.
pub record Reached (source rest : Option (List ℕ)) (f : Feed) (events : List Event) : Type 0 where
  pub given : List ℕ
  pub is_along : Along 0 all_features given f.state f.held events
  pub gave : Consumes source rest given
  pub at_end : f.eof ≡ true → IsAtEnd rest

-- More may come, the parser is undecided on the held bytes, and the bytes so far are below the largest offset.
pub record Asks (source rest : Option (List ℕ)) (f : Feed) (events : List Event) : Type 0 where
  pub reached : Reached source rest f events
  pub hint : ℕ
  pub undecided : IsUndecided f.state f.eof f.held hint
  pub below : length reached.given < 2 ^ 64

-- The text of the events that the feeder has passed is written, or waits on the page.
pub record Progress (text : List Event → List ℕ) (input output : Change) (f : Feed) (page : List ℕ) : Type 0 where
  pub events : List Event
  pub reached : Reached input.before input.after f events
  pub puts : PutsBytes output.before output.after [] (text events) page

-- The same, where the feeder asks for more.
pub record Wants (text : List Event → List ℕ) (input output : Change) (f : Feed) (page : List ℕ) : Type 0 where
  pub events : List Event
  pub asks : Asks input.before input.after f events
  pub puts : PutsBytes output.before output.after [] (text events) page

-- A caller that wanted more read on: it is further along; or the stream ended within a part that was skipped, and all
-- of it is listed; or the call was given up.
abbrev pub ReadOn : (text_of : Report → List ℕ) (input output : Change) (old new : Feed) (page : List ℕ)
    → Result (Option Error) ListError → Type 0
ReadOn text_of input output old new page (Ok None) = Progress (listing_by text_of) input output new page
    × (weight new < weight old)
ReadOn text_of input output old new page (Ok (Some e)) = IsListed text_of input output (Fault e)
ReadOn text_of input output old new page (Err e) = ListsBy text_of input output (Err e)

-- the same wherever the caller was in its stream
abbrev pub ReadsOnAnywhere : (text_of : Report → List ℕ) (input output : Change) (old : Feed) (waiting : List ℕ)
    (new : Feed) (page : List ℕ) → Result (Option Error) ListError → Type 0
ReadsOnAnywhere text_of input output old waiting new page result = (source taken : Option (List ℕ))
    → Wants (listing_by text_of) (from_to source input.before) (from_to taken output.before) old waiting
    → ReadOn text_of (from_to source input.after) (from_to taken output.after) old new page result
