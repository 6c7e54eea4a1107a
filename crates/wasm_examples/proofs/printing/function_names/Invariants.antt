use Rattle.wasm_examples.proofs.Common.{[], texts_of, names_after}
use Rattle.wasm_examples.proofs.Folding.{Came}
use Rattle.wasm_examples.proofs.printing.function_names.Given as goal

abbrev pub invariant-loop-payload : goal.invariant-loop-payload
invariant-loop-payload l = record {
  can : goal.iterator-loop-payload.can_next l.payload-iterator;
  finite : goal.iterator-loop-payload.is_finite l.payload-iterator;
  came : Came names_after [] l.fn.bytes l.payload-iterator (texts_of l.names.list);
}
