use Rattle.wasm_edits.proofs.EditLaws.{stripping_is}
use Rattle.wasm_edits.proofs.laws.stripping_is_an_edit.Goals as goal

pub returns : goal.returns
returns c = stripping_is
