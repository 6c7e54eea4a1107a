use Rattle.wasm_grammar.proofs.worked.Streams as worked
use Rattle.wasm_grammar.proofs.laws.edges_of_rules.Goals as goal

pub returns : goal.returns
returns c = worked.edges_of_rules
