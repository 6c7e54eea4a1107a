use Rattle.wasm_edits.proofs.Common.{arith}
use Rattle.wasm_edits.proofs.KeptInPlace.{stays_there}
use Rattle.wasm_edits.proofs.stripping.move_down.Goals as goal

pub returns-else-to-start-clause-items : goal.returns-else-to-start-clause-items
returns-else-to-start-clause-items c = grind (arith, stays_there)
