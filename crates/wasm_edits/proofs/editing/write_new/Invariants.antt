use Rattle.wasm_edits.proofs.Common.{◌≡◌, ◌+◌, ◌++◌, length, All, drop, take}
use Rattle.wasm_edits.specs.Edits.{CanBeMade, new_bytes}
use Rattle.wasm_edits.proofs.editing.write_new.Given as goal

abbrev pub invariant-edits : goal.invariant-edits
invariant-edits l = record {
  whole : take l.end l.bytes ++ new_bytes l.rest ≡ take l.at l.fn.bytes ++ new_bytes l.fn.edits;
  size : l.end + length (new_bytes l.rest) ≡ l.at + length (new_bytes l.fn.edits);
  rest : drop l.end l.bytes ≡ drop l.end l.fn.bytes;
  fit : All CanBeMade l.rest;
  len : length l.bytes ≡ length l.fn.bytes;
}

abbrev pub decreases-edits : goal.decreases-edits
decreases-edits l = length l.rest
