use Rattle.wasm_examples.proofs.Common.{◌≡◌, false, place, UnlessMemory, Walked}
use Rattle.wasm_examples.proofs.walks.check_in.Given as goal

abbrev pub invariant-loop-one : goal.invariant-loop-one
invariant-loop-one g l = record {
  can : (goal.iterator-loop-one g).can_next l.one-iterator;
  finite : (goal.iterator-loop-one g).is_finite l.one-iterator;
  going : l.one-iterator.ended ≡ false;
  walked : Walked (UnlessMemory g.T.FromReaderIn.meaning) l.fn.section.count (place l.fn.section.reader) l.one-iterator.left
      (place l.one-iterator.reader);
}
