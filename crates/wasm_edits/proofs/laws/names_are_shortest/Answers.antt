use Rattle.wasm_edits.proofs.ShortestNames.{names_shortest}
use Rattle.wasm_edits.proofs.laws.names_are_shortest.Goals as goal

pub returns : goal.returns
returns c = names_shortest
