use Rattle.wasm_edits.proofs.Common.{◌≡◌, drop}
use Rattle.std.proofs.Common.{All}
use Rattle.wasm_edits.specs.Edits.{CanBeMade, CanBeWritten, fate_by, fate_from}
use Rattle.wasm_edits.proofs.edits.fate_by.Given as goal

abbrev pub invariant-loop-edit : goal.invariant-loop-edit
invariant-loop-edit l = record {
  is : fate_by l.edits l.name ≡ fate_from l.fate (drop l.edit-index l.edits) l.name;
  fits : All CanBeMade l.edits → CanBeWritten l.fate;
}
