use Rattle.wasm_edits.proofs.EditLaws.{composes}
use Rattle.wasm_edits.proofs.laws.editing_composes.Goals as goal

pub returns : goal.returns
returns c = composes
