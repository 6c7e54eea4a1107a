use Rattle.wasm_edits.proofs.Common.{arith, common_steps}
use Rattle.wasm_edits.proofs.edits.fate_by.Goals as goal
use Rattle.wasm_edits.proofs.edits.fate_by.Goals.{in-Append, in-Keep+else-not-is_kept, in-Remove+else-is_same, in-Replace+else-is_same-2}
use Rattle.wasm_edits.proofs.edits.fate_by.Goals.{in-Replace+then-is_same-2}

pub loop-edit-preserved : goal.loop-edit-preserved
loop-edit-preserved c = elim c.match-edit.branch [
  | in-Keep+else-not-is_kept w ↦ grind (arith, common_steps)
  | in-Remove+else-is_same w ↦ grind (arith, common_steps)
  | in-Replace+then-is_same-2 w ↦ grind (arith, common_steps)
  | in-Replace+else-is_same-2 w ↦ grind (arith, common_steps)
  | in-Append w ↦ grind (arith, common_steps)
]
