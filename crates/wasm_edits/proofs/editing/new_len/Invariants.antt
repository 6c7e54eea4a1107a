use Rattle.wasm_edits.proofs.Common.{◌≡◌, ℕ, List, ◌++◌, length, All}
use Rattle.wasm_edits.specs.EditParts.{IsLength}
use Rattle.wasm_edits.specs.Edits.{CanBeMade, new_bytes}
use Rattle.wasm_edits.proofs.editing.new_len.Given as goal

abbrev pub invariant-edits : goal.invariant-edits
invariant-edits l = record {
  counted : (bytes : List ℕ) × IsLength l.size bytes × (new_bytes l.fn.edits ≡ bytes ++ new_bytes l.rest);
  fit : All CanBeMade l.rest;
}

abbrev pub decreases-edits : goal.decreases-edits
decreases-edits l = length l.rest
