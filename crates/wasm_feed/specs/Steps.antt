-- What a step says that returns a payload, and the feeder after it.
use Rattle.std.specs.Prelude.{Bool, List, ℕ, Result, Ok, Err}
use Rattle.wasm_base.specs.declared.error.Error.{Error}
use Rattle.wasm_feed.specs.declared.feeder.Step.{Step}
use Rattle.wasm_feed.specs.declared.feeder.Step.TheVariants.{NeedMoreData, Parsed}
use Rattle.wasm_frames.specs.ParserState.{ParserState}
use Rattle.wasm_parser.specs.ParseAnswer.{ItemsBegin, report_of}
use Rattle.wasm_streams.specs.Beside.{MovesOver}
use Rattle.wasm_streams.specs.Feed.{Feed}
use Rattle.wasm_streams.specs.Step.{GivesTold, Moves, Part, Request, Stop, Told}

-- what it says
abbrev pub told : Result Step Error → Told
told (Ok (NeedMoreData hint)) = Request hint
told (Ok (Parsed bytes payload)) = Part (report_of payload) bytes.now
told (Err e) = Stop e

-- If the step returns a counted section, its reader is at the first item.
abbrev pub StepBegins : Result Step Error → Type 0
StepBegins (Ok (NeedMoreData hint)) = Unit {0}
StepBegins (Ok (Parsed bytes payload)) = ItemsBegin payload
StepBegins (Err e) = Unit {0}

-- A step says what a parser in this state returns on these bytes, and shows those that it consumed.
pub record GivesStep (p : ParserState) (eof : Bool) (held : List ℕ) (result : Result Step Error) : Type 0 where
  pub gives : GivesTold p eof held (told result)
  pub items : StepBegins result

-- The feeder made a step with this result.
pub record Steps (old : Feed) (result : Result Step Error) (new : Feed) : Type 0 where
  pub moves : Moves old (told result) new
  pub items : StepBegins result

-- The feeder made a step with this result over a chunk, of which it took this many bytes.
pub record StepsOver (old : Feed) (piece : List ℕ) (result : Result Step Error) (taken : ℕ) (new : Feed) : Type 0 where
  pub moves : MovesOver old piece (told result) taken new
  pub items : StepBegins result
