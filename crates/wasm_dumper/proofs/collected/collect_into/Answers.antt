use Rattle.wasm_dumper.proofs.Collecting.{may_begin}
use Rattle.wasm_dumper.specs.declared.collected.Collector.{Collector}
use Rattle.wasm_dumper.proofs.collected.collect_into.Goals as goal

pub visit-requires-clause-begins : goal.visit-requires-clause-begins
visit-requires-clause-begins g c = may_begin {V = Collector} (record { alloc = c.args.alloc }) c.args.names.now
    (g.R.Source.remaining c.args.input.now) (g.R.Source.has_failed c.args.input.now)
