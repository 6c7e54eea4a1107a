use Rattle.wasm_output.proofs.Common.{length, flat_map, quoted_byte, Says, Writing, Adds, lines}
use Rattle.wasm_output.proofs.lines.TextLines.quoted_bytes.Given as goal

-- what says the rest in quotes says all
abbrev pub invariant-runs : goal.invariant-runs
invariant-runs g l = record {
  adds : Adds (lines l.initial.self) (lines l.self);
  says : (w : Writing) → Says (flat_map quoted_byte l.rest) (lines l.self) w
      → Says (flat_map quoted_byte l.fn.bytes) (lines l.initial.self) w;
}

abbrev pub decreases-runs : goal.decreases-runs
decreases-runs g l = length l.rest
