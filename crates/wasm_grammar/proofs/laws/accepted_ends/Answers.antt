use Rattle.wasm_grammar.proofs.accepted.Accepting as accepting
use Rattle.wasm_grammar.proofs.laws.accepted_ends.Goals as goal

pub returns : goal.returns
returns c = accepting.accepted_ends
