use Rattle.wasm_output.proofs.Common.{◌≡◌, false, length, Adds, lines}
use Rattle.wasm_output.proofs.lines.TextLines.put_rows.Given as goal

abbrev pub invariant-rows : goal.invariant-rows
invariant-rows g l = record {
  adds : Adds (lines l.initial.self) (lines l.self);
  ended : l.self.is_begun ≡ false;
}

abbrev pub decreases-rows : goal.decreases-rows
decreases-rows g l = length l.self.rows
