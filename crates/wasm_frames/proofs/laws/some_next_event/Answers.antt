use Rattle.wasm_frames.proofs.Following.{some_next_event}
use Rattle.wasm_frames.proofs.laws.some_next_event.Goals as goal

pub returns : goal.returns
returns c = some_next_event
