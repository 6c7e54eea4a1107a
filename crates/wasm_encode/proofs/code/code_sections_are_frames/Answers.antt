use Rattle.wasm_encode.proofs.CodeBack.{code_frames}
use Rattle.wasm_encode.proofs.code.code_sections_are_frames.Goals as goal

pub returns : goal.returns
returns c = code_frames
