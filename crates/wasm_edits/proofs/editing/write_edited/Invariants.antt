use Rattle.wasm_edits.proofs.Common.{◌≡◌, true, drop, length, take, HasEdited, feed_of}
use Rattle.wasm_edits.proofs.editing.write_edited.Given as goal

-- what is made of the parts so far was written
abbrev pub invariant-parts : goal.invariant-parts
invariant-parts l = record {
  comes : HasEdited l.fn.edits l.fn.bytes (feed_of l.fn.bytes l.cursor) (take l.end l.out);
  size : length (take l.end l.out) ≡ l.end;
  rest : drop l.end l.out ≡ drop l.end l.fn.out;
  finished : l.cursor.is_finished ≡ true;
  len : length l.out ≡ length l.fn.out;
}

abbrev pub decreases-parts : goal.decreases-parts
decreases-parts l = length (feed_of l.fn.bytes l.cursor).held
