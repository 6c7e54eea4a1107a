use Rattle.wasm_dumper.proofs.Common.{◌≡◌, place, flattened}
use Rattle.wasm_dumper.specs.Counting.{with_imports}
use Rattle.wasm_dumper.proofs.counts.Counts.add_imports.Given as goal

abbrev pub invariant-loop-import : goal.invariant-loop-import
invariant-loop-import l = record {
  can : goal.iterator-loop-import.can_next l.import-iterator;
  finite : goal.iterator-loop-import.is_finite l.import-iterator;
  left : with_imports l.initial.self (flattened l.fn.section.count (place l.fn.section.reader)) ≡ with_imports l.self l.import-iterator;
}
