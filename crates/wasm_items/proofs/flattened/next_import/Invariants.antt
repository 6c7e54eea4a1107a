use Rattle.std.proofs.Common.{◌≡◌, ◌++◌}
use Rattle.wasm_items.specs.Flattened.{imports_of_bundles}
use Rattle.wasm_items.proofs.flattened.next_import.Given as goal

-- the remaining imports are those at the start of the loop
abbrev pub invariant-left : goal.invariant-left
invariant-left l = l.bundle ++ imports_of_bundles l.bundles ≡ l.fn.bundle ++ imports_of_bundles l.fn.bundles

abbrev pub decreases-left : goal.decreases-left
decreases-left l = l.bundles.left
