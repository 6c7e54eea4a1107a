use Rattle.wasm_examples.proofs.Common.{◌≡◌, imports_of, outside_parts, imported}
use Rattle.wasm_examples.proofs.outside.Outside.add_imports.Given as goal

abbrev pub invariant-loop-import : goal.invariant-loop-import
invariant-loop-import l = record {
  can : goal.iterator-loop-import.can_next l.import-iterator;
  finite : goal.iterator-loop-import.is_finite l.import-iterator;
  left : imported (outside_parts l.initial.self) (imports_of l.fn.section) ≡ imported (outside_parts l.self) l.import-iterator;
}
