use Rattle.wasm_examples.proofs.Common.{◌≡◌, false, place, Walked}
use Rattle.wasm_examples.proofs.walks.check.Given as goal

abbrev pub invariant-loop-item : goal.invariant-loop-item
invariant-loop-item g l = record {
  can : (goal.iterator-loop-item g).can_next l.item-iterator;
  finite : (goal.iterator-loop-item g).is_finite l.item-iterator;
  going : l.item-iterator.ended ≡ false;
  walked : Walked g.T.FromReader.meaning l.fn.section.count (place l.fn.section.reader) l.item-iterator.left (place l.item-iterator.reader);
}
