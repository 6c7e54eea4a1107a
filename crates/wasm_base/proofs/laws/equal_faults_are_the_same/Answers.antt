use Rattle.wasm_base.proofs.SameFaults.{fault}
use Rattle.wasm_base.proofs.Deciding.{item_or_fault}
use Rattle.wasm_base.proofs.laws.equal_faults_are_the_same.Goals as goal

pub returns-clause-fault : goal.returns-clause-fault
returns-clause-fault c = item_or_fault fault
