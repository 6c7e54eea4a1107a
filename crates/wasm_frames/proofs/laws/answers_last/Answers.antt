use Rattle.wasm_frames.proofs.AnswerBounds.{answers_last}
use Rattle.wasm_frames.proofs.laws.answers_last.Goals as goal

pub returns : goal.returns
returns c = answers_last
