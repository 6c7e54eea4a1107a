-- A feeder as a value.
use Rattle.std.specs.Prelude.{◌≡◌, ℕ, ◌+◌, ◌<◌, ◌≤◌, ◌^◌, Bool, true, false, List, [], ◌++◌, length, Result, Ok, Err}
use Rattle.wasm_base.specs.FaultAt.{FaultAt, fault_at, at_offset}
use Rattle.wasm_base.specs.Owned.{out_of_memory}
use Rattle.wasm_base.specs.declared.error.Error.{Error}
use Rattle.wasm_base.specs.declared.fault.Fault.TheVariants.{OffsetRange}
use Rattle.wasm_frames.specs.ParserState.{ParserState, initial_state}

-- | a feeder that is passed chunks: where its parser is, what it holds and stores, what a push and a step make of it;
--   what holds for every feeder [`pushed`, `RefusesPush`, `Steps.Steps`, `GivesStep`, `Cursors.feed_of`,
--   `FeedersLaws.WaitsUndecided`, `FeedersWait`]
-- its parser's state; the bytes that were pushed and not consumed; how many it stores; whether the input has ended; and
-- whether it wants more
pub record Feed : Type 0 where
  pub state : ParserState
  pub held : List ℕ
  pub stored : ℕ
  pub eof : Bool
  pub wants_more : Bool

-- a feeder without bytes, whose parser is here
abbrev pub empty_feed : ParserState → Feed
empty_feed p = record { state = p; held = []; stored = 0; eof = false; wants_more = true }

abbrev pub new_feed : (offset features : ℕ) → Feed
new_feed offset features = empty_feed (initial_state offset features)

-- the feeder after a push
abbrev pub pushed : Feed → (piece : List ℕ) → Feed
pushed f piece = record {
  state = f.state;
  held = f.held ++ piece;
  stored = length f.held + length piece;
  eof = f.eof;
  wants_more = false;
}

-- the feeder after the end of input
abbrev pub finished : Feed → Feed
finished f = record { state = f.state; held = f.held; stored = f.stored; eof = true; wants_more = false }

-- where the stream is after the bytes that are held
abbrev pub end_of : Feed → ℕ
end_of f = f.state.offset + length f.held

-- This is the fault of a push that is refused.
abbrev pub RefusesAs : FaultAt → Result (Unit {0}) Error → Type 0
RefusesAs f (Ok done) = ⊥
RefusesAs f (Err e) = fault_at e ≡ f

-- No other fault is that of a push.
abbrev pub RefusesOnlyAs : FaultAt → Result (Unit {0}) Error → Type 0
RefusesOnlyAs f (Ok done) = Unit {0}
RefusesOnlyAs f (Err e) = fault_at e ≡ f

-- A push is refused if the stream would pass the largest offset, and otherwise only if an allocation fails.
pub record RefusesPush (f : Feed) (piece : List ℕ) (result : Result (Unit {0}) Error) : Type 0 where
  pub past_the_top : 2 ^ 64 ≤ end_of f + length piece → RefusesAs (at_offset OffsetRange f.state.offset) result
  pub within : end_of f + length piece < 2 ^ 64 → RefusesOnlyAs out_of_memory result
