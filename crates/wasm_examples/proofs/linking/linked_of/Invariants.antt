use Rattle.wasm_examples.proofs.Common.{linked_parts, linked}
use Rattle.wasm_examples.specs.Linking.{no_parts}
use Rattle.wasm_examples.proofs.Folding.{Came}
use Rattle.wasm_examples.proofs.linking.linked_of.Given as goal

abbrev pub invariant-loop-payload : goal.invariant-loop-payload
invariant-loop-payload l = record {
  can : goal.iterator-loop-payload.can_next l.payload-iterator;
  finite : goal.iterator-loop-payload.is_finite l.payload-iterator;
  came : Came linked no_parts l.fn.bytes l.payload-iterator (linked_parts l.linked);
}
