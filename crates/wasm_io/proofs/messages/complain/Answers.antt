use Rattle.wasm_io.proofs.Saying.{says}
use Rattle.wasm_io.proofs.messages.complain.Goals as goal

pub returns : goal.returns
returns g c = says c.write_all.result _ c.args.message.now c.write_all.ensures.ok c.write_all.ensures.err c.write_all.ensures.failed
