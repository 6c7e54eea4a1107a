use Rattle.wasm_edits.proofs.Encodings.{sections_back}
use Rattle.wasm_edits.proofs.laws.sections_read_back.Goals as goal

pub returns : goal.returns
returns c = sections_back
