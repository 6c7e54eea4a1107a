use Rattle.wasm_grammar.proofs.readings.Shifting as moves
use Rattle.wasm_grammar.proofs.laws.start_only_moves.Goals as goal

pub returns : goal.returns
returns c = moves.start_only_moves
