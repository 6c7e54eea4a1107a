-- Parsers of frames that have read nothing.
use Rattle.wasm_streams.proofs.Common.{◌≡◌, ℕ, ◌∙◌, arith, ParserState}
use Rattle.wasm_frames.specs.ParserState.{initial_state}
use Rattle.wasm_frames.specs.Stored.{numbers_of, parser_of}
use Rattle.wasm_frames.specs.declared.stored.StoredParser.{StoredParser}

-- what they know, by their numbers
pub new_parser : (offset features : ℕ) (s : StoredParser) (p : ParserState) → p ≡ parser_of s
    → numbers_of s ≡ initial_state offset features → p ≡ initial_state offset features
new_parser offset features s p is new = is ∙ grind arith
