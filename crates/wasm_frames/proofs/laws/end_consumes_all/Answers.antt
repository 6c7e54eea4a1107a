use Rattle.wasm_frames.proofs.Consumed.{end_consumes_all}
use Rattle.wasm_frames.proofs.laws.end_consumes_all.Goals as goal

pub returns : goal.returns
returns c = end_consumes_all
