use Rattle.wasm_grammar.proofs.worked.Endings as worked
use Rattle.wasm_grammar.proofs.laws.worked_endings.Goals as goal

pub returns : goal.returns
returns c = worked.worked_endings
