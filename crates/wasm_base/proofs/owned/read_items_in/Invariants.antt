use Rattle.std.proofs.Common.{◌-◌}
use Rattle.wasm_base.specs.Window.{place, KeepsWindow}
use Rattle.wasm_base.proofs.InTurn.{SoFar}
use Rattle.wasm_base.proofs.owned.read_items_in.Given as goal

abbrev pub invariant-items : goal.invariant-items
invariant-items g l = record {
  so_far : SoFar g.T.FromReaderIn.meaning l.count (place l.fn.reader) (l.count - l.counter) l.items.items (place l.reader);
  keeps : KeepsWindow l.fn.reader l.reader;
}
