use Rattle.wasm_examples.proofs.Common.{length}
use Rattle.wasm_examples.proofs.Ending.{Passed}
use Rattle.wasm_examples.proofs.streams.end_of.Given as goal

abbrev pub invariant-parts : goal.invariant-parts
invariant-parts l = Passed l.fn.bytes l.parser l.rest

abbrev pub decreases-parts : goal.decreases-parts
decreases-parts l = length l.rest
