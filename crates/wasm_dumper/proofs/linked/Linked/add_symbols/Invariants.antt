use Rattle.wasm_dumper.proofs.Common.{KeepsNames}
use Rattle.wasm_dumper.proofs.linked.Linked.add_symbols.Given as goal

abbrev pub invariant-symbols : goal.invariant-symbols
invariant-symbols l = record {
  keeps : KeepsNames l.initial.self.names l.self.names;
  others : KeepsNames l.initial.named l.named;
}
