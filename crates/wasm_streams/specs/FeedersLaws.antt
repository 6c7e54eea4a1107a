-- What holds of every feeder: its position in a stream, and how long it waits.
use Rattle.std.specs.Prelude.{◌≡◌, ◌⊎◌, ℕ, ◌+◌, ◌<◌, ◌≤◌, ◌^◌, true, false, List, [], ◌++◌, length, take, drop}
use Rattle.wasm_base.specs.FaultAt.{at_offset}
use Rattle.wasm_base.specs.declared.fault.Fault.TheVariants.{OffsetRange}
use Rattle.wasm_frames.specs.Along.{Along, is_last}
use Rattle.wasm_frames.specs.GivesNextEvent.{IsUndecided}
use Rattle.wasm_frames.specs.Answer.{state_after_result}
use Rattle.wasm_frames.specs.Answer.{is_end, refuses}
use Rattle.wasm_frames.specs.ParserState.{grammar_of}
use Rattle.wasm_grammar.specs.Reading.{Event, Report}
use Rattle.wasm_grammar.specs.Waiting.{enough, wants, waiting}
use Rattle.wasm_streams.specs.Beside.{MayCome, MovesOver}
use Rattle.wasm_streams.specs.Feed.{Feed, new_feed, pushed, finished, end_of}
use Rattle.wasm_streams.specs.Step.{Told, Part, Request, answer_of, Stepped, Moves}

-- | where a feeder is along a stream, whatever calls came before; what a step says of each stream that continues this
--   way [`SteppedOver`, `FeedersGoAlong`, `Step.Stepped`]
-- The feeder received these bytes of a stream: those that its parser consumed are read as these events, and it holds
-- the others.
abbrev pub IsAlong : (start features : ℕ) (given : List ℕ) (f : Feed) (events : List Event) → Type 0
IsAlong start features given f events = Along start features given f.state f.held events

-- What a step over a chunk says of the stream: it is the next event of every stream that begins with the bytes so far
-- and the chunk, after which the feeder has received what it took of the chunk.
pub record SteppedOver (start features : ℕ) (given : List ℕ) (f : Feed) (piece : List ℕ) (events : List Event)
    (result : Told) (taken : ℕ) (g : Feed) : Type 0 where
  pub steps : Stepped start features f.eof (given ++ piece) events result g.state (g.held ++ drop taken piece)
  pub takes : (later : List Event) → Along start features (given ++ piece) g.state (g.held ++ drop taken piece) later
      → IsAlong start features (given ++ take taken piece) g later

-- A feeder continues as it was left, or the end of input was recorded since.
abbrev pub GoesOn : (left now : Feed) → Type 0
GoesOn left now = (now ≡ left) ⊎ (now ≡ finished left)

-- Where a feeder is along a stream, whatever calls are made of it, in any order.
pub record FeedersGoAlong : Type 0 where
  pub begins : (start features : ℕ) → IsAlong start features [] (new_feed start features) []
  pub pushes : (start features : ℕ) (given : List ℕ) (f : Feed) (events : List Event) (piece : List ℕ)
      → IsAlong start features given f events → IsAlong start features (given ++ piece) (pushed f piece) events
  pub finishes : (start features : ℕ) (given : List ℕ) (f : Feed) (events : List Event)
      → IsAlong start features given f events → IsAlong start features given (finished f) events
  -- a step is the next event of every stream that goes on so, its last one, or undecided
  pub steps : (start features : ℕ) (given : List ℕ) (f g : Feed) (events : List Event) (result : Told)
      → IsAlong start features given f events → start + length given < 2 ^ 64 → Moves f result g
      → Stepped start features f.eof given events result g.state g.held
  pub steps_over : (start features : ℕ) (given : List ℕ) (f g : Feed) (piece : List ℕ) (events : List Event)
      (result : Told) (taken : ℕ)
      → IsAlong start features given f events → start + length (given ++ piece) < 2 ^ 64
      → MovesOver f piece result taken g → SteppedOver start features given f piece events result taken g
  -- a step is a step over no bytes
  pub over_none : (f g : Feed) (result : Told) → length f.held ≤ f.stored → Moves f result g
      → MovesOver f [] result 0 g
  -- a part but the end shows some bytes
  pub shows_some : (f g : Feed) (report : Report) (bytes : List ℕ) → Moves f (Part report bytes) g
      → is_end report ≡ false → 0 < length bytes
  -- a request is undecided
  pub asks : (f g : Feed) (hint : ℕ) → Moves f (Request hint) g → IsUndecided g.state g.eof g.held hint
  -- where the parser is after a step
  pub becomes : (f g : Feed) (result : Told) → Moves f result g → g.state
      ≡ state_after_result f.state (answer_of result)
  -- after the end or a fault the next step returns the same, whatever bytes follow, and after the end of input too
  pub again : (f g h : Feed) (one two : Told) → is_last (answer_of one) ≡ true → Moves f one g
      → Moves g two h → answer_of one ≡ answer_of two
  pub again_over : (f g k h : Feed) (piece more : List ℕ) (one two : Told) (taken later : ℕ)
      → is_last (answer_of one) ≡ true → MovesOver f piece one taken g → GoesOn g k → MayCome k more
      → end_of k + length more < 2 ^ 64 → MovesOver k more two later h → answer_of one ≡ answer_of two

-- A feeder stores what it holds, which ends below the top of the offsets, and wants more only where more may come and
-- its parser is undecided on what it holds.
pub record WaitsUndecided (f : Feed) : Type 0 where
  pub stores : length f.held ≤ f.stored
  pub below : end_of f < 2 ^ 64
  pub undecided : f.wants_more ≡ true → (hint : ℕ) × IsUndecided f.state f.eof f.held hint

-- This holds of a new feeder and after each call, while the stream stays below the largest offset; above it, a step is
-- the fault `OffsetRange`. After bytes arrive, it stores less than the bound of the undecided ones and the chunk
-- together; if the bytes that it holds decide, no more than before.
pub record FeedersWait : Type 0 where
  pub begins : (offset features : ℕ) → offset < 2 ^ 64 → WaitsUndecided (new_feed offset features)
  pub pushes : (f : Feed) (piece : List ℕ) → end_of f + length piece < 2 ^ 64 → WaitsUndecided f
      → WaitsUndecided (pushed f piece)
  pub finishes : (f : Feed) → WaitsUndecided f → WaitsUndecided (finished f)
  pub steps : (f g : Feed) (result : Told) → WaitsUndecided f → Moves f result g → WaitsUndecided g
  pub steps_over : (f g : Feed) (piece : List ℕ) (result : Told) (taken : ℕ)
      → end_of f + length piece < 2 ^ 64 → MovesOver f piece result taken g → WaitsUndecided g
  pub past_the_top : (f g : Feed) (result : Told) → 2 ^ 64 ≤ end_of f → Moves f result g
      → (answer_of result ≡ refuses (at_offset OffsetRange f.state.offset)) × (g.wants_more ≡ false)
  pub bounded : (f : Feed) (piece : List ℕ) (need hint : ℕ) → waiting (grammar_of f.state) f.held ≡ wants need hint
      → (pushed f piece).stored < need + length piece
  pub bounded_over : (f g : Feed) (piece : List ℕ) (result : Told) (taken need hint : ℕ)
      → waiting (grammar_of f.state) f.held ≡ wants need hint → 0 < length piece → MovesOver f piece result taken g
      → g.stored < need + length piece
  pub idle_over : (f g : Feed) (piece : List ℕ) (result : Told) (taken : ℕ)
      → WaitsUndecided f → f.eof ≡ false → 0 < length f.held → waiting (grammar_of f.state) f.held ≡ enough
      → end_of f + length piece < 2 ^ 64 → MovesOver f piece result taken g → (taken ≡ 0) × (g.stored ≤ f.stored)
