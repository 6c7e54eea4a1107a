-- Laws of what a parser knows and returns.
use Rattle.std.specs.Prelude.{◌≡◌, ℕ, ◌+◌, ◌^◌, ◌<◌, Bool, false, List, [], ◌∷◌, ◌++◌, length}
use Rattle.wasm_grammar.specs.Grammar.{Tile, tile, verdict}
use Rattle.wasm_grammar.specs.Content.{ended}
use Rattle.wasm_grammar.specs.EventRanges.{consumed_by}
use Rattle.wasm_grammar.specs.Reading.{Event, last_event, Reading}
use Rattle.wasm_grammar.specs.NextEvent.{NextEvent}
use Rattle.wasm_frames.specs.Answer.{Answer, GivesAnswer, IsRequest}
use Rattle.wasm_frames.specs.ParserState.{ParserState, IsStateAfter, grammar_of}
use Rattle.wasm_frames.specs.StateAfter.{state_after_tile}
use Rattle.wasm_grammar.specs.Tiling.{grammar}

-- what may come after a prefix of a stream depends on what a parser knows that is after that prefix; and where it
-- passes the tile that comes there, it is after the tile
abbrev pub ParserSuffices : Type 0
ParserSuffices = (parser : ParserState) (start : ℕ) (prefix : List ℕ) (s : IsStateAfter parser start prefix) →
    (grammar_of parser ≡ grammar start s.tiles)
    × ((rest : List ℕ) (t : Tile) → verdict (grammar_of parser) rest ≡ tile t
    → IsStateAfter (state_after_tile parser t) start (prefix ++ t.bytes))

-- wherever a parser is in a stream, the reading of that stream has a next event
abbrev pub SomeNextEvent : Type 0
SomeNextEvent = (p : ParserState) (start features : ℕ) (prefix rest : List ℕ) (events : List Event)
    → IsStateAfter p start prefix → Reading (prefix ++ rest) start features events → NextEvent events prefix

-- A result other than a request, on bytes after which more may come, is the result with more bytes too, whether these
-- are then all or not.
abbrev pub AnswersLast : Type 0
AnswersLast = (p new : ParserState) (bytes more : List ℕ) (answer : Answer)
    → GivesAnswer p false bytes answer new → ¬ IsRequest answer → p.offset + length (bytes ++ more) < 2 ^ 64
    → (eof : Bool) → GivesAnswer p eof (bytes ++ more) answer new

-- the events of a reading that ends at the stream's end consumed all of the stream
abbrev pub EndConsumesAll : Type 0
EndConsumesAll = (stream : List ℕ) (start features : ℕ) (events : List Event) (offset : ℕ)
    → Reading stream start features (events ++ last_event (ended offset) ∷ []) → stream ≡ consumed_by events
