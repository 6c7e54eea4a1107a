use Rattle.wasm_output.proofs.Common.{length, flat_map, quoted_byte, Put}
use Rattle.wasm_output.specs.Said.{PutsMore}
use Rattle.wasm_output.proofs.output.Output.put_quoted_bytes.Given as goal

-- what puts the rest in quotes puts all
abbrev pub invariant-runs : goal.invariant-runs
invariant-runs g l = (new : Put) → PutsMore (flat_map quoted_byte l.rest) l.self new
    → PutsMore (flat_map quoted_byte l.fn.bytes) l.initial.self new

abbrev pub decreases-runs : goal.decreases-runs
decreases-runs g l = length l.rest
