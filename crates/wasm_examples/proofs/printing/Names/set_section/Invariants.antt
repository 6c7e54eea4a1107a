use Rattle.wasm_examples.proofs.Common.{◌≡◌, List, Result, FaultAt, place, NameParts, id_of_parts, name_in, texts_of, ascending, with_all}
use Rattle.wasm_examples.proofs.Common.{names_of_section}
use Rattle.wasm_examples.specs.Printing.{with_subsection}
use Rattle.wasm_examples.proofs.Parts.{PartsLeft}
use Rattle.wasm_examples.proofs.printing.Names.set_section.Given as goal

abbrev pub invariant-loop-subsection : goal.invariant-loop-subsection
invariant-loop-subsection l = record {
  can : goal.iterator-loop-subsection.can_next l.subsection-iterator;
  finite : goal.iterator-loop-subsection.is_finite l.subsection-iterator;
  parts : List (Result NameParts FaultAt);
  left : PartsLeft name_in (place l.subsection-iterator.entries) parts;
  so_far : names_of_section (texts_of l.initial.self.list) (place l.fn.window)
      ≡ with_all with_subsection (texts_of l.self.list) (ascending id_of_parts l.subsection-iterator.last parts);
}
