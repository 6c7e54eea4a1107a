use Rattle.wasm_frames.proofs.SkipAlong.{skipping_goes_along}
use Rattle.wasm_frames.proofs.laws.skipping_goes_along.Goals as goal

pub returns : goal.returns
returns c = skipping_goes_along
