use Rattle.wasm_examples.proofs.Common.{◌≡◌, string_bytes, imports_of, with_lines}
use Rattle.wasm_examples.proofs.imports.add_imports.Given as goal

abbrev pub invariant-loop-import : goal.invariant-loop-import
invariant-loop-import l = record {
  can : goal.iterator-loop-import.can_next l.import-iterator;
  finite : goal.iterator-loop-import.is_finite l.import-iterator;
  lines : with_lines (string_bytes l.initial.text) (imports_of l.fn.section) ≡ with_lines (string_bytes l.text) l.import-iterator;
}
