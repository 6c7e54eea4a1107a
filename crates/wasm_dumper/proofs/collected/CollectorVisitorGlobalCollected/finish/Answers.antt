use Rattle.wasm_dumper.proofs.Collecting.{finishes}
use Rattle.wasm_dumper.proofs.Common.{Ok}
use Rattle.wasm_dumper.proofs.collected.CollectorVisitorGlobalCollected.finish.Goals as goal

pub returns : goal.returns
returns c = record { finishes = finishes c.args.self.now c.args._names.now (Ok tt) }
