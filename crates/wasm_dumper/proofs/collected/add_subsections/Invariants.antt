use Rattle.wasm_dumper.proofs.Common.{KeepsNames}
use Rattle.wasm_dumper.proofs.collected.add_subsections.Given as goal

abbrev pub invariant-subsections : goal.invariant-subsections
invariant-subsections l = KeepsNames l.initial.names l.names
