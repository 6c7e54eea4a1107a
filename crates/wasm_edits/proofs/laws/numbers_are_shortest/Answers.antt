use Rattle.wasm_edits.proofs.Encodings.{shortest}
use Rattle.wasm_edits.proofs.laws.numbers_are_shortest.Goals as goal

pub returns : goal.returns
returns c = shortest
