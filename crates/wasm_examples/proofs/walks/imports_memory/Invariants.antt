use Rattle.wasm_examples.proofs.Common.{◌≡◌, imports_of, memory_in}
use Rattle.wasm_examples.proofs.walks.imports_memory.Given as goal

abbrev pub invariant-loop-import : goal.invariant-loop-import
invariant-loop-import l = record {
  can : goal.iterator-loop-import.can_next l.import-iterator;
  finite : goal.iterator-loop-import.is_finite l.import-iterator;
  left : memory_in (imports_of l.fn.section) ≡ memory_in l.import-iterator;
}
