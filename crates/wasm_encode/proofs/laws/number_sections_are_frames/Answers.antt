use Rattle.wasm_encode.proofs.FramesBack.{number_frames}
use Rattle.wasm_encode.proofs.laws.number_sections_are_frames.Goals as goal

pub returns : goal.returns
returns c = number_frames
