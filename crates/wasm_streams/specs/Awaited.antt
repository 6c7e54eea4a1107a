-- A part whose end is missing, by its first bytes.
use Rattle.std.specs.Prelude.{◌≡◌, ℕ, ◌-◌, ◌<◌, ◌≤◌, Bool, false, List, ◌++◌, length}
use Rattle.wasm_frames.specs.Answer.{answer_to, asks}
use Rattle.wasm_frames.specs.ParserState.{ParserState}
use Rattle.wasm_streams.specs.declared.parser.CutPart.{CutPart}

-- Whatever comes after these first bytes, a parser asks for all that is missing to this size.
abbrev pub Awaits : ParserState → (first : List ℕ) (size : ℕ) → Type 0
Awaits p first size = (more : List ℕ) → length (first ++ more) < size
    → answer_to p false (first ++ more) ≡ asks (size - length (first ++ more))

-- | how many bytes of a part are missing, by its first bytes and its size [`Awaits`]
-- A parser that is still at this part asks for what is missing of it.
pub record Recalls (p : ParserState) (part : CutPart) : Type 0 where
  pub behind : part.offset ≤ p.offset
  pub missing : part.offset ≡ p.offset → Awaits p part.first part.size

-- The parser asks for this many bytes after these.
abbrev pub IsAsked : ParserState → (bytes : List ℕ) (hint : ℕ) → Type 0
IsAsked p bytes hint = (eof : Bool) × (answer_to p eof bytes ≡ asks hint)
