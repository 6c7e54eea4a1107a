use Rattle.wasm_edits.proofs.Encodings.{reads_back}
use Rattle.wasm_edits.proofs.laws.numbers_read_back.Goals as goal

pub returns : goal.returns
returns c = reads_back
