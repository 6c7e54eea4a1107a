use Rattle.wasm_dumper.proofs.EventLines.{short_if_any}
use Rattle.wasm_dumper.proofs.events.short_name.Goals as goal

pub returns-clause-short : goal.returns-clause-short
returns-clause-short c = short_if_any (λ n. n.now) c.args.id _ c.section_name.ensures
