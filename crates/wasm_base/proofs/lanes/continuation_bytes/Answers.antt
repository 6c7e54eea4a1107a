use Rattle.wasm_base.proofs.SmallBytes.{lanes_of}
use Rattle.wasm_base.proofs.lanes.continuation_bytes.Goals as goal

pub returns : goal.returns
returns g c = lanes_of g.row.N c.args.bytes c.requires c.fits-bytes.0
