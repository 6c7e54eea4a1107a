use Rattle.wasm_frames.proofs.Along.{answers_go_along}
use Rattle.wasm_frames.proofs.laws.answers_go_along.Goals as goal

pub returns : goal.returns
returns c = answers_go_along
