use Rattle.wasm_dumper.proofs.Common.{KeepsNames}
use Rattle.wasm_dumper.proofs.collected.add_map.Given as goal

abbrev pub invariant-names : goal.invariant-names
invariant-names l = KeepsNames l.initial.names l.names
