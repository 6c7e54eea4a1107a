use Rattle.wasm_dumper.proofs.Collecting.{kept, takes}
use Rattle.wasm_dumper.proofs.Common.{Ok, Stop}
use Rattle.wasm_dumper.proofs.DumpTurns.{stop_is_no_request}
use Rattle.wasm_dumper.proofs.collected.CollectorVisitorGlobalCollected.take_fault.Goals as goal

pub returns-clause-takes : goal.returns-clause-takes
returns-clause-takes c = takes c.args.self.now c.args.self.now c.args._names.now
    c.args._names.now (Stop c.args._error) (stop_is_no_request c.args._error) (Ok tt) (kept c.args._names.now)
