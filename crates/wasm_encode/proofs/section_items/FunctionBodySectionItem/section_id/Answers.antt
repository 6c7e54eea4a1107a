use Rattle.wasm_encode.proofs.CodeBack.{code_makes_frames}
use Rattle.wasm_encode.proofs.section_items.FunctionBodySectionItem.section_id.Goals as goal

pub returns-clause-frames : goal.returns-clause-frames
returns-clause-frames c = code_makes_frames
