use Rattle.wasm_examples.proofs.Common.{◌≡◌, with_each, linked_parts, with_relocation, with_relocations}
use Rattle.wasm_custom.specs.Reloc.{relocation_at}
use Rattle.wasm_examples.proofs.Items.{left_of}
use Rattle.wasm_examples.proofs.linking.Linked.add_relocations.Given as goal

abbrev pub invariant-loop-entry : goal.invariant-loop-entry
invariant-loop-entry l = record {
  can : goal.iterator-loop-entry.can_next l.entry-iterator;
  finite : goal.iterator-loop-entry.is_finite l.entry-iterator;
  left : with_relocations (linked_parts l.initial.self) l.fn.section
      ≡ with_each (with_relocation l.fn.section.section) (linked_parts l.self) (left_of relocation_at l.entry-iterator);
}
