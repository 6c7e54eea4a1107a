use Rattle.wasm_examples.proofs.Common.{None, started}
use Rattle.wasm_examples.proofs.Folding.{Came}
use Rattle.wasm_examples.proofs.streams.start_of.Given as goal

abbrev pub invariant-loop-payload : goal.invariant-loop-payload
invariant-loop-payload l = record {
  can : goal.iterator-loop-payload.can_next l.payload-iterator;
  finite : goal.iterator-loop-payload.is_finite l.payload-iterator;
  came : Came started None l.fn.bytes l.payload-iterator l.start;
}
