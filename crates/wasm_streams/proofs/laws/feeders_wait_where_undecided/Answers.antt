use Rattle.wasm_streams.proofs.Waits.{feeders_wait}
use Rattle.wasm_streams.proofs.laws.feeders_wait_where_undecided.Goals as goal

pub returns : goal.returns
returns c = feeders_wait
