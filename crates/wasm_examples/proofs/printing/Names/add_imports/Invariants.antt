use Rattle.wasm_examples.proofs.Common.{◌≡◌, imports_of, texts_of, add_imported}
use Rattle.wasm_examples.proofs.printing.Names.add_imports.Given as goal

abbrev pub invariant-loop-import : goal.invariant-loop-import
invariant-loop-import l = record {
  can : goal.iterator-loop-import.can_next l.import-iterator;
  finite : goal.iterator-loop-import.is_finite l.import-iterator;
  left : add_imported (texts_of l.initial.self.list) (imports_of l.fn.section) ≡ add_imported (texts_of l.self.list) l.import-iterator;
}
