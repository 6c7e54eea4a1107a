use Rattle.wasm_frames.proofs.SkippedLaws.{skipping_leaves_out_bodies}
use Rattle.wasm_frames.proofs.laws.skipping_leaves_out_bodies.Goals as goal

pub returns : goal.returns
returns c = skipping_leaves_out_bodies
