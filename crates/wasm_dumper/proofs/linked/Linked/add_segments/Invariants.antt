use Rattle.wasm_dumper.proofs.Common.{KeepsNames}
use Rattle.wasm_dumper.proofs.linked.Linked.add_segments.Given as goal

abbrev pub invariant-segments : goal.invariant-segments
invariant-segments l = KeepsNames l.initial.self.names l.self.names
