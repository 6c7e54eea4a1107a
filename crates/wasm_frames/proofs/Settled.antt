-- Stored parsers whose code section ends within the offsets of a stream.
use Rattle.wasm_frames.proofs.Common.{◌≡◌, ◌+◌, ◌^◌, ◌<◌, arith, numbers_of}
use Rattle.wasm_frames.specs.Stored.{parser_of}
use Rattle.wasm_frames.specs.declared.stored.StoredParser.{StoredParser}

-- Their numbers are the parser.
pub settled : (s : StoredParser) → s.offset + s.code_bytes < 2 ^ 64 → parser_of s ≡ numbers_of s
settled s fits = grind arith
