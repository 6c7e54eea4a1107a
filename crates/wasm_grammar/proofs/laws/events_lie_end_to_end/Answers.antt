use Rattle.wasm_grammar.proofs.readings.EndToEnd as ends
use Rattle.wasm_grammar.proofs.laws.events_lie_end_to_end.Goals as goal

pub returns : goal.returns
returns c = ends.events_lie_end_to_end
