use Rattle.wasm_examples.proofs.Common.{◌≡◌, List, Result, FaultAt, place, LinkingParts, linking_subsection_in, after_each, linked_parts}
use Rattle.wasm_examples.proofs.Common.{with_linking}
use Rattle.wasm_examples.specs.Linking.{with_subsection}
use Rattle.wasm_examples.proofs.Parts.{PartsLeft}
use Rattle.wasm_examples.proofs.linking.Linked.add_linking.Given as goal

abbrev pub invariant-loop-subsection : goal.invariant-loop-subsection
invariant-loop-subsection l = record {
  can : goal.iterator-loop-subsection.can_next l.subsection-iterator;
  finite : goal.iterator-loop-subsection.is_finite l.subsection-iterator;
  parts : List (Result LinkingParts FaultAt);
  left : PartsLeft linking_subsection_in (place l.subsection-iterator) parts;
  so_far : with_linking (linked_parts l.initial.self) l.fn.section ≡ after_each (λ f. f) with_subsection (linked_parts l.self) parts;
}
