-- What a step says, and the feeder after it.
use Rattle.std.specs.Prelude.{◌≡◌, ◌+◌, ℕ, Bool, true, false, List, [], ◌++◌, length, drop}
use Rattle.wasm_base.specs.FaultAt.{fault_at}
use Rattle.wasm_base.specs.declared.error.Error.{Error}
use Rattle.wasm_streams.specs.Feed.{Feed}
use Rattle.wasm_streams.specs.declared.cursor.Cursor.{Cursor}
use Rattle.wasm_streams.specs.declared.cursor.FrameStep.{FrameStep}
use Rattle.wasm_streams.specs.declared.cursor.FrameStep.TheVariants.{Parsed, NeedMoreData, Fault}
use Rattle.wasm_frames.specs.Along.{GoesAlong}
use Rattle.wasm_frames.specs.Answer.{Answer, GivesAnswer, asks, refuses, reports, state_after_result}
use Rattle.wasm_frames.specs.ParserState.{ParserState}
use Rattle.wasm_grammar.specs.Reading.{Event, Report}

-- what a step says: it requests more, returns a part with these bytes, or stops at a fault
pub data Told : Type 0 where
  Request : (hint : ℕ) → Told
  Part : Report → (bytes : List ℕ) → Told
  Stop : Error → Told

-- what the parser returned in it
abbrev pub answer_of : Told → Answer
answer_of (Request hint) = asks hint
answer_of (Part report bytes) = reports report (length bytes)
answer_of (Stop e) = refuses (fault_at e)

-- the bytes that it shows
abbrev pub shown : Told → List ℕ
shown (Request hint) = []
shown (Part report bytes) = bytes
shown (Stop e) = []

-- whether it requests more
abbrev pub is_request : Told → Bool
is_request (Request hint) = true
is_request (Part report bytes) = false
is_request (Stop e) = false

-- what the result of a step says
abbrev pub says : FrameStep → Told
says (Parsed frame bytes) = Part frame bytes.now
says (NeedMoreData hint) = Request hint
says (Fault e) = Stop e

-- A step says what a parser in this state returns on these bytes, and shows those that it consumed.
pub record GivesTold (p : ParserState) (eof : Bool) (held : List ℕ) (said : Told) : Type 0 where
  pub parses : GivesAnswer p eof held (answer_of said) (state_after_result p (answer_of said))
  pub shows : held ≡ shown said ++ drop (length (shown said)) held

-- The feeder's parser returned this on the held bytes, and has consumed what it returned; the feeder holds the bytes
-- after the shown ones, and wants more exactly if the step requests it.
pub record Moves (old : Feed) (said : Told) (new : Feed) : Type 0 where
  pub parses : GivesAnswer old.state old.eof old.held (answer_of said) new.state
  pub shows : old.held ≡ shown said ++ new.held
  pub stored : new.stored ≡ old.stored
  pub eof : new.eof ≡ old.eof
  pub wants_more : new.wants_more ≡ is_request said

-- | what a step of a cursor says, and where the cursor is then [`StepsAt`]
-- A step over the stored bytes said this: what the cursor's parser returns on those that are not consumed. The mark is
-- then after the shown ones, and the cursor wants more exactly if the step requests it.
pub record StepsAt (old : Cursor) (stored : List ℕ) (said : Told) (new : Cursor) : Type 0 where
  pub parses : GivesAnswer old.parser old.is_finished (drop old.mark stored) (answer_of said) new.parser
  pub shows : drop old.mark stored ≡ shown said ++ drop new.mark stored
  pub mark : new.mark ≡ old.mark + length (shown said)
  pub finished : new.is_finished ≡ old.is_finished
  pub wants : new.wants_more ≡ is_request said

-- what a step says of every stream with this prefix, whose events before the step are these
abbrev pub Stepped : (start features : ℕ) (eof : Bool) (given : List ℕ) (events : List Event) → Told
    → (new : ParserState) (rest : List ℕ) → Type 0
Stepped start features eof given events said new rest =
    GoesAlong start features eof given events (answer_of said) (shown said) new rest
