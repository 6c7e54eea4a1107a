use Rattle.wasm_output.proofs.Common.{length, Put}
use Rattle.wasm_output.specs.Said.{PutsMore}
use Rattle.wasm_output.proofs.output.Output.put_long.Given as goal

-- what puts the rest puts all
abbrev pub invariant-pieces : goal.invariant-pieces
invariant-pieces g l = (new : Put) → PutsMore l.rest l.self new → PutsMore l.fn.bytes l.initial.self new

abbrev pub decreases-pieces : goal.decreases-pieces
decreases-pieces g l = length l.rest
