-- The offsets of the faults that a parser returns.
use Rattle.wasm_frames.proofs.Common.{◌≡◌, ℕ, ◌+◌, List, length, FaultAt, fault, final, verdict, ParserState, grammar_of}
use Rattle.wasm_grammar.proofs.parts.Bounds.{Between, verdict_lies, Within-any}

-- the same of a parser, wherever it is
pub parser_fault_lies : (p : ParserState) (rest : List ℕ) (f : FaultAt) → verdict (grammar_of p) rest ≡ final (fault f)
    → Between p.offset (p.offset + length rest) f.offset
parser_fault_lies p rest f v = search (verdict_lies, Within-any)
