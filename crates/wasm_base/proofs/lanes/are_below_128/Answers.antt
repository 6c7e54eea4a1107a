use Rattle.wasm_base.proofs.SmallBytes.{none_large}
use Rattle.wasm_base.proofs.lanes.are_below_128.Goals as goal

pub returns : goal.returns
returns g c = rw c.continuation_bytes.ensures (none_large c.args.bytes)
