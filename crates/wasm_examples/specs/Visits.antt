-- A visit of the parts of a stream that comes in chunks.
use Rattle.std.specs.Borrow.{Bor}
use Rattle.std.specs.Prelude.{◌≡◌, ◌⊎◌, ℕ, ◌+◌, ◌<◌, true, false, List, [], ◌∷◌, ◌++◌, length, Result, Ok}
use Rattle.std.specs.Prelude.{Err}
use Rattle.wasm_base.specs.FaultAt.{fault_at}
use Rattle.wasm_base.specs.Owned.{out_of_memory}
use Rattle.wasm_base.specs.declared.error.Error.{Error}
use Rattle.wasm_frames.specs.Along.{Along}
use Rattle.wasm_frames.specs.Answer.{is_end}
use Rattle.wasm_frames.specs.ParserState.{ParserState, grammar_of}
use Rattle.wasm_grammar.specs.Content.{Ending, ended, fault}
use Rattle.wasm_grammar.specs.Reading.{Event, last_event, Reading}
use Rattle.wasm_grammar.specs.Waiting.{wants, waiting}
use Rattle.wasm_parser.specs.ParseAnswer.{report_of}
use Rattle.wasm_parser.specs.declared.payload.Payload.{Payload}
use Rattle.wasm_streams.specs.Feed.{Feed}
use Rattle.wasm_feed.specs.Pieces.{joined}
use Rattle.wasm_feed.specs.Steps.{Steps}
use Rattle.wasm_feed.specs.declared.feeder.Step.TheVariants.{NeedMoreData, Parsed}
use Rattle.wasm_examples.specs.declared.visits.Done.{Done}
use Rattle.wasm_examples.specs.declared.visits.Done.TheVariants.{Visited, Asked, Ended}

-- a part as an event of a reading
abbrev pub part : (bytes : List ℕ) → Payload → Event
part bytes payload = record { report = report_of payload; consumed = bytes }

-- | the visitor that receives the parts of a chunked stream, one after the other; a bound on the number that the
--   visit returns [`VisitsStream`, `StoresLittle`]
-- Reporting these to a visitor, one after the other, turns it into another.
abbrev pub Visits : {V X : Type 0} (takes : V → X → V → Type 0) → V → List X → V → Type 0
Visits takes v [] w = v ≡ w
Visits {V} takes v (x ∷ later) w = (u : V) × takes v x u × Visits takes u later w

-- A stream's reading ends so, and this holds of its other events.
pub record ReadsSo (P : List Event → Type 0) (stream : List ℕ) (features : ℕ) (end : Ending) : Type 0 where
  pub events : List Event
  pub reading : Reading stream 0 features (events ++ last_event end ∷ [])
  pub so : P events

-- This holds of all events of a stream before its end.
abbrev pub ReadsAll : (P : List Event → Type 0) (stream : List ℕ) (features : ℕ) → Type 0
ReadsAll P stream features = (offset : ℕ) × ReadsSo P stream features (ended offset)

-- This holds of all events before the fault at which a stream stops; or an allocation failed.
abbrev pub ReadsToFault : (P : List Event → Type 0) (stream : List ℕ) (features : ℕ) → Error → Type 0
ReadsToFault P stream features e = (fault_at e ≡ out_of_memory) ⊎ ReadsSo P stream features (fault (fault_at e))

-- A step reported the next part to the visitor, asked for more, or was the end. Or it stopped at a fault; or an
-- allocation failed.
abbrev pub VisitsNext : {V : Type 0} (takes : V → Event → V → Type 0) (old : Feed) (before : V) → Result Done Error
    → (new : Feed) (after : V) → Type 0
VisitsNext takes old before (Ok Visited) new after = (bytes : Bor (List ℕ)) × (payload : Payload)
    × Steps old (Ok (Parsed bytes payload)) new × (is_end (report_of payload) ≡ false)
    × takes before (part bytes.now payload) after
VisitsNext takes old before (Ok Asked) new after =
    (hint : ℕ) × Steps old (Ok (NeedMoreData hint)) new × (after ≡ before)
VisitsNext takes old before (Ok Ended) new after = (bytes : Bor (List ℕ)) × (payload : Payload)
    × Steps old (Ok (Parsed bytes payload)) new × (is_end (report_of payload) ≡ true) × (after ≡ before)
VisitsNext takes old before (Err e) new after =
    (fault_at e ≡ out_of_memory) ⊎ (Steps old (Err e) new × (after ≡ before))

-- A number of bytes that is 0, or less than the bound of a part of which the first bytes had come and some bytes that
-- come next in the stream together.
pub record Stores (features : ℕ) (stream : List ℕ) (most : ℕ) : Type 0 where
  pub given : List ℕ
  pub p : ParserState
  pub held : List ℕ
  pub events : List Event
  pub is_along : Along 0 features given p held events
  pub need : ℕ
  pub hint : ℕ
  pub asks : waiting (grammar_of p) held ≡ wants need hint
  pub piece : List ℕ
  pub later : List ℕ
  pub whole : stream ≡ given ++ (piece ++ later)
  pub less : most < need + length piece

abbrev pub StoresLittle : (features : ℕ) (stream : List ℕ) (most : ℕ) → Type 0
StoresLittle features stream most = (most ≡ 0) ⊎ Stores features stream most

-- This holds of the events of the stream in these chunks, wherever it is cut, and the result is such a number.
abbrev pub ReadsPieces : (P : List Event → Type 0) (pieces : List (Bor (List ℕ))) (features : ℕ) → Result ℕ Error
    → Type 0
ReadsPieces P pieces features (Ok most) =
    ReadsAll P (joined pieces) features × StoresLittle features (joined pieces) most
ReadsPieces P pieces features (Err e) = ReadsToFault P (joined pieces) features e

-- All parts of the stream in these chunks, wherever it is cut, were reported to the visitor, up to its end, and the
-- result is such a number. Or all parts before the fault at which the stream stops were; or an allocation failed.
abbrev pub VisitsStream : {V : Type 0} (takes : V → Event → V → Type 0) (pieces : List (Bor (List ℕ))) (features : ℕ)
    (before : V) → Result ℕ Error → (after : V) → Type 0
VisitsStream takes pieces features before result after =
    ReadsPieces (λ events. Visits takes before events after) pieces features result
