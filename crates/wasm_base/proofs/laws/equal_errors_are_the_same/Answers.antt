use Rattle.wasm_base.proofs.SameFaults.{error}
use Rattle.wasm_base.proofs.laws.equal_errors_are_the_same.Goals as goal

pub returns : goal.returns
returns c = error
