use Rattle.wasm_edits.proofs.Common.{◌≡◌, true, [], ◌∷◌, length, ◌-◌, ◌≤◌, take, HasEdited, feed_of}
use Rattle.wasm_edits.specs.declared.edits.Edit.TheVariants as edit
use Rattle.wasm_edits.proofs.stripping.move_kept.Given as goal

-- the kept ones of the parts so far are at the front, and the remaining parts have not moved
abbrev pub invariant-parts : goal.invariant-parts
invariant-parts l = record {
  comes : HasEdited (edit.Keep l.fn.keep ∷ []) l.fn.bytes (feed_of l.bytes l.cursor) (take l.kept l.bytes);
  finished : l.cursor.is_finished ≡ true;
  order : l.kept ≤ l.cursor.mark;
  within : l.cursor.mark ≤ length l.bytes;
  long : length l.bytes ≡ length l.fn.bytes;
}

abbrev pub decreases-parts : goal.decreases-parts
decreases-parts l = length l.bytes - l.cursor.mark
