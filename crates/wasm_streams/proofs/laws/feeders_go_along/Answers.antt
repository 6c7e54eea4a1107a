use Rattle.wasm_streams.proofs.Stepping.{feeders_go_along}
use Rattle.wasm_streams.proofs.laws.feeders_go_along.Goals as goal

pub returns : goal.returns
returns c = feeders_go_along
