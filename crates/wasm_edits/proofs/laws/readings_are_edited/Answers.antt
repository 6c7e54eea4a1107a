use Rattle.wasm_edits.proofs.EditedReadings.{readings_edited}
use Rattle.wasm_edits.proofs.laws.readings_are_edited.Goals as goal

pub returns : goal.returns
returns c = readings_edited
