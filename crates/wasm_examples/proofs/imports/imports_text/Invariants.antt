use Rattle.wasm_examples.proofs.Common.{[], string_bytes, with_part}
use Rattle.wasm_examples.proofs.Folding.{Came}
use Rattle.wasm_examples.proofs.imports.imports_text.Given as goal

abbrev pub invariant-loop-payload : goal.invariant-loop-payload
invariant-loop-payload l = record {
  can : goal.iterator-loop-payload.can_next l.payload-iterator;
  finite : goal.iterator-loop-payload.is_finite l.payload-iterator;
  came : Came with_part [] l.fn.bytes l.payload-iterator (string_bytes l.text);
}
