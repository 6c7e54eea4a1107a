use Rattle.std.proofs.Common.{◌-◌}
use Rattle.wasm_base.proofs.InTurn.{SoFar}
use Rattle.wasm_base.specs.Window.{place, KeepsWindow}
use Rattle.wasm_custom.proofs.coredumps.read_items.Given as goal

abbrev pub invariant-items : goal.invariant-items
invariant-items g l = record {
  so_far : SoFar (g.T.Listed.meaning l.start) l.count (place l.fn.reader) (l.count - l.counter) l.items.items (place l.reader);
  keeps : KeepsWindow l.fn.reader l.reader;
}
