use Rattle.wasm_encode.proofs.FramesBack.{modules_are_read}
use Rattle.wasm_encode.proofs.laws.modules_are_read.Goals as goal

pub returns : goal.returns
returns c = modules_are_read
