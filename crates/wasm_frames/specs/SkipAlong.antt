-- Where a caller is that skips parts by their first fields.
use Rattle.std.specs.Prelude.{◌≡◌, ℕ, ◌+◌, ◌<◌, List, [], ◌∷◌, ◌++◌, length, Some}
use Rattle.wasm_base.specs.FaultAt.{at_offset}
use Rattle.wasm_base.specs.declared.fault.Fault.TheVariants.{UnexpectedEof}
use Rattle.wasm_frames.specs.ParserState.{ParserState}
use Rattle.wasm_frames.specs.SkipNext.{Skip, SkipsPart, skip_in}
use Rattle.wasm_grammar.specs.Content.{fault}
use Rattle.wasm_grammar.specs.Reading.{Event, last_event, Reading}
use Rattle.wasm_frames.specs.Along.{Along}

-- The next event of a stream is the part that was skipped, with these bytes; the parser is after it.
pub record SkipCame (start features : ℕ) (given : List ℕ) (events : List Event) (bytes rest : List ℕ) (skip : Skip)
    (new : ParserState) : Type 0 where
  pub event : Event
  pub says : skip_in event.report ≡ Some skip
  pub consumed : event.consumed ≡ bytes
  pub is_along : Along start features given new rest (events ++ event ∷ [])

-- | a caller that skips parts continues the reading after them [`SkipCame`]
-- What a caller relies on that receives a stream bit by bit, and lets the parser skip a part.
pub record SkippingGoesAlong : Type 0 where
  -- once all bytes of the part have come, the caller is after it
  pub whole : (start features : ℕ) (given : List ℕ) (p : ParserState) (first others : List ℕ) (events : List Event)
      (skip : Skip) (new : ParserState) (more bytes rest : List ℕ)
      → Along start features given p (first ++ others) events
      → SkipsPart p first skip new → (first ++ others) ++ more ≡ bytes ++ rest → p.offset + length bytes ≡ skip.to
      → SkipCame start features (given ++ more) events bytes rest skip new
  -- a stream that ends before that has a fault where the content begins
  pub short : (start features : ℕ) (given : List ℕ) (p : ParserState) (first others : List ℕ) (events : List Event)
      (skip : Skip) (new : ParserState) (more : List ℕ) → Along start features given p (first ++ others) events
      → SkipsPart p first skip new → p.offset + length ((first ++ others) ++ more) < skip.to
      → Reading (given ++ more) start features
      (events ++ last_event (fault (at_offset UnexpectedEof skip.from)) ∷ [])
