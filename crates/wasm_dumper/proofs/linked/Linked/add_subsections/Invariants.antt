use Rattle.wasm_dumper.proofs.Common.{KeepsNames}
use Rattle.wasm_dumper.proofs.linked.Linked.add_subsections.Given as goal

abbrev pub invariant-subsections : goal.invariant-subsections
invariant-subsections l = record {
  keeps : KeepsNames l.initial.self.names l.self.names;
  others : KeepsNames l.initial.named l.named;
}
