-- The reading of a stream that arrives in chunks.
use Rattle.std.specs.Borrow.{Bor}
use Rattle.std.specs.Prelude.{◌≡◌, ℕ, ◌+◌, ◌<◌, ◌^◌, Bool, true, false, List, length, flat_map, Vec, Result, Ok, Err}
use Rattle.wasm_base.specs.FaultAt.{fault_at}
use Rattle.wasm_base.specs.Owned.{out_of_memory}
use Rattle.wasm_base.specs.declared.error.Error.{Error}
use Rattle.wasm_grammar.specs.Reading as reading
use Rattle.wasm_grammar.specs.Reading.{Reading}
use Rattle.wasm_frames.specs.Along.{Along, ReadsEach}
use Rattle.wasm_feed.specs.Events.{AreEvents}
use Rattle.wasm_streams.specs.Feed.{Feed}
use Rattle.wasm_feed.specs.declared.events.Event.{Event}

-- | chunks joined; the values are the events of a stream's reading, or an allocation failed [`IsReading`,
--   `ReadsUnlessMemory`]
-- the chunks joined
abbrev pub joined : List (Bor (List ℕ)) → List ℕ
joined pieces = flat_map (λ piece. piece.now) pieces

-- The values are the events of the reading of this stream, whose windows have these features.
abbrev pub IsReading : {A : Type 0} → (stream : List ℕ) (start features : ℕ) → List (Event A) → Type 0
IsReading stream start features values =
    (events : List reading.Event) × Reading stream start features events × AreEvents events values

-- The stream was read, or memory was refused.
abbrev pub ReadsUnlessMemory : {A B : Type 0} → (stream : List ℕ) (start features : ℕ) → Result (Vec (Event A) B) Error
    → Type 0
ReadsUnlessMemory stream start features (Ok values) = IsReading stream start features values.items
ReadsUnlessMemory stream start features (Err e) = fault_at e ≡ out_of_memory

-- A feeder that received these bytes has this state, and the values are the events so far.
abbrev pub HasCome : {A : Type 0} → (start features : ℕ) (given : List ℕ) → Feed → List (Event A) → Type 0
HasCome start features given feed values = (events : List reading.Event)
    × Along start features given feed.state feed.held events × AreEvents events values

-- The values are the events of each stream that begins with the bytes so far, or that they are.
abbrev pub HasEnded : {A : Type 0} → (start features : ℕ) (eof : Bool) (given : List ℕ) → List (Event A) → Type 0
HasEnded start features eof given values =
    (events : List reading.Event) × ReadsEach start features eof given events × AreEvents events values

-- A stream below the largest offset, of which a feeder received these bytes, and its state.
pub record GivenTo {A : Type 0} (feed : Feed) (values : List (Event A)) : Type 0 where
  pub start : ℕ
  pub features : ℕ
  pub given : List ℕ
  pub has_come : HasCome start features given feed values
  pub below : start + length given < 2 ^ 64

-- What a feeder holds was read, up to a request or the last event; it is known which.
abbrev pub ReadsHeld : {A : Type 0} → (old : Feed) (before : List (Event A)) → Result Bool Error
    → (new : Feed) (after : List (Event A)) → Type 0
ReadsHeld old before (Ok true) new after = (s : GivenTo old before) → HasEnded s.start s.features old.eof s.given after
ReadsHeld old before (Ok false) new after = (s : GivenTo old before)
    → HasCome s.start s.features s.given new after × (old.eof ≡ false)
ReadsHeld old before (Err e) new after = fault_at e ≡ out_of_memory
