use Rattle.wasm_dumper.proofs.Common.{KeepsNames}
use Rattle.wasm_dumper.proofs.linked.Linked.pass_imports.Given as goal

abbrev pub invariant-loop-import : goal.invariant-loop-import
invariant-loop-import l = record {
  can : goal.iterator-loop-import.can_next l.import-iterator;
  finite : goal.iterator-loop-import.is_finite l.import-iterator;
  keeps : KeepsNames l.initial.self.names l.self.names;
}
