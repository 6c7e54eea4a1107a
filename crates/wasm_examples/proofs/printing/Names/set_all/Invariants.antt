use Rattle.wasm_examples.proofs.Common.{◌≡◌, naming_at, texts_of, ascending, with_all, with_name, names_of_map}
use Rattle.wasm_examples.proofs.Items.{left_of}
use Rattle.wasm_examples.proofs.printing.Names.set_all.Given as goal

abbrev pub invariant-loop-naming : goal.invariant-loop-naming
invariant-loop-naming l = record {
  can : goal.iterator-loop-naming.can_next l.naming-iterator;
  finite : goal.iterator-loop-naming.is_finite l.naming-iterator;
  left : names_of_map (texts_of l.initial.self.list) l.fn.map
      ≡ with_all with_name (texts_of l.self.list) (ascending (λ x. x.index) l.naming-iterator.last
      (left_of naming_at l.naming-iterator.entries));
}
