use Rattle.wasm_grammar.proofs.accepted.Accepting as accepting
use Rattle.wasm_grammar.proofs.laws.fault_ends.Goals as goal

pub returns : goal.returns
returns c = accepting.fault_ends
