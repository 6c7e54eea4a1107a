use Rattle.std.proofs.Common.{◌≡◌}
use Rattle.wasm_c_items.specs.FlatImports.{flat_by, next_flat}
use Rattle.wasm_c_items.proofs.flat_imports.next_import.Given as goal

abbrev pub invariant-loop-left : goal.invariant-loop-left
invariant-loop-left l = record {
  same : flat_by l.left l.bytes l.imports ≡ next_flat l.bytes l.initial.imports;
}

abbrev pub decreases-loop-left : goal.decreases-loop-left
decreases-loop-left l = l.left
