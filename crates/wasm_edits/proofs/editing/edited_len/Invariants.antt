use Rattle.wasm_edits.proofs.Common.{◌≡◌, ℕ, true, List, length, HasEdited, feed_of}
use Rattle.wasm_edits.specs.EditParts.{IsLength}
use Rattle.wasm_edits.proofs.editing.edited_len.Given as goal

-- what is written of the parts so far was counted
abbrev pub invariant-parts : goal.invariant-parts
invariant-parts l = record {
  counted : (written : List ℕ) × HasEdited l.fn.edits l.fn.bytes (feed_of l.fn.bytes l.cursor) written × IsLength l.size written;
  finished : l.cursor.is_finished ≡ true;
}

abbrev pub decreases-parts : goal.decreases-parts
decreases-parts l = length (feed_of l.fn.bytes l.cursor).held
