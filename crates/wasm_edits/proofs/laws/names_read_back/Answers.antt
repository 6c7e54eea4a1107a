use Rattle.wasm_edits.proofs.Encodings.{names_back}
use Rattle.wasm_edits.proofs.laws.names_read_back.Goals as goal

pub returns : goal.returns
returns c = names_back
