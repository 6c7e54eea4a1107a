use Rattle.wasm_examples.proofs.Common.{◌≡◌, place, after_each, outside_parts, at_fault, exported, with_export}
use Rattle.wasm_items.specs.Exports.{export_at}
use Rattle.wasm_examples.proofs.Items.{left_of}
use Rattle.wasm_examples.proofs.outside.Outside.add_exports.Given as goal

abbrev pub invariant-loop-export : goal.invariant-loop-export
invariant-loop-export l = record {
  can : goal.iterator-loop-export.can_next l.export-iterator;
  finite : goal.iterator-loop-export.is_finite l.export-iterator;
  left : exported (outside_parts l.initial.self) l.fn.section.count (place l.fn.section.reader)
      ≡ after_each at_fault with_export (outside_parts l.self) (left_of export_at l.export-iterator);
}
