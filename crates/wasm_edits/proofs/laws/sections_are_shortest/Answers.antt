use Rattle.wasm_edits.proofs.ShortestNames.{sections_shortest}
use Rattle.wasm_edits.proofs.laws.sections_are_shortest.Goals as goal

pub returns : goal.returns
returns c = sections_shortest
