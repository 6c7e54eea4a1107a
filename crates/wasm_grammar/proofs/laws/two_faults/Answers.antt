use Rattle.wasm_grammar.proofs.worked.Fields.{two_faults}
use Rattle.wasm_grammar.proofs.laws.two_faults.Goals as goal

pub returns : goal.returns
returns c = two_faults
