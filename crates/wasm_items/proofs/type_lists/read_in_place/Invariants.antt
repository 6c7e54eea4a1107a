use Rattle.std.proofs.Common.{◌≡◌, ◌-◌, length}
use Rattle.wasm_base.specs.Window.{place, KeepsWindow}
use Rattle.wasm_base.proofs.InTurn.{SoFar}
use Rattle.wasm_items.proofs.type_lists.read_in_place.Given as goal

abbrev pub invariant-items : goal.invariant-items
invariant-items g l = record {
  so_far : SoFar g.T.FromReader.meaning l.count (place l.fn.reader) (l.count - l.counter) (g.P.AsSlice.items l.places) (place l.reader);
  filled : length (g.P.AsSlice.items l.places) ≡ l.counter;
  keeps : KeepsWindow l.fn.reader l.reader;
}
