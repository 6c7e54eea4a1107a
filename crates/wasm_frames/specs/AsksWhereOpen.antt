-- A parser requests more bytes exactly if no parser could decide.
use Rattle.std.specs.Prelude.{◌≡◌, ◌↔◌, ℕ, ◌+◌, ◌<◌, ◌^◌, Bool, false, List, ◌++◌, length}
use Rattle.wasm_frames.specs.Answer.{Answer, IsRequest}
use Rattle.wasm_frames.specs.ParserState.{ParserState, IsStateAfter}
use Rattle.wasm_grammar.specs.Reading.{Stream}
use Rattle.wasm_grammar.specs.Undecided.{TwoStreams}

-- | if more bytes may come, a parser requests them exactly if two streams that begin with the bytes so far have
--   different next events
-- If more bytes may come, the result is a request exactly if two streams that begin with the bytes so far have
-- different next events. Offsets must remain for 2^33 bytes, so that both are streams.
abbrev pub AsksWhereOpen : ParserState → (eof : Bool) (came : List ℕ) → Answer → Type 0
AsksWhereOpen p eof came answer = eof ≡ false → (start : ℕ) (front : List ℕ) → IsStateAfter p start front
    → Stream (front ++ came) start → start + length (front ++ came) + 2 ^ 33 < 2 ^ 64
    → IsRequest answer ↔ TwoStreams start p.features front came
