use Rattle.std.proofs.Common.{◌-◌, ◌≤◌, length}
use Rattle.wasm_c_items.proofs.Batches.{Stored}
use Rattle.wasm_c_items.proofs.cursors.store_items.Given as goal

abbrev pub invariant-loop-count : goal.invariant-loop-count
invariant-loop-count g l = record {
  within : l.count ≤ length l.out;
  stored : Stored (g.W.Walk.next l.walk l.bytes) l.initial.items l.initial.out l.count (length l.out - l.count) l.items l.out;
}

abbrev pub decreases-loop-count : goal.decreases-loop-count
decreases-loop-count g l = length l.out - l.count
