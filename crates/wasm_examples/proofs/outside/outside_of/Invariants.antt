use Rattle.wasm_examples.proofs.Common.{outside_parts, noted}
use Rattle.wasm_examples.specs.Outside.{no_parts}
use Rattle.wasm_examples.proofs.Folding.{Came}
use Rattle.wasm_examples.proofs.outside.outside_of.Given as goal

abbrev pub invariant-loop-payload : goal.invariant-loop-payload
invariant-loop-payload l = record {
  can : goal.iterator-loop-payload.can_next l.payload-iterator;
  finite : goal.iterator-loop-payload.is_finite l.payload-iterator;
  came : Came noted no_parts l.fn.bytes l.payload-iterator (outside_parts l.outside);
}
