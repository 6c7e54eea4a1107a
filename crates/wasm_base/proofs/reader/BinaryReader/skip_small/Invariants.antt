use Rattle.std.proofs.Common.{◌≡◌, ◌≤◌}
use Rattle.wasm_base.specs.Skip.{skipped_numbers_at}
use Rattle.wasm_base.specs.Window.{place, KeepsWindow}
use Rattle.wasm_base.proofs.reader.BinaryReader.skip_small.Given as goal

-- passing over those that are left comes to what passing over all of them does
abbrev pub invariant-loop-left : goal.invariant-loop-left
invariant-loop-left l = record {
  so_far : skipped_numbers_at l.left (place l.self) ≡ skipped_numbers_at l.fn.count (place l.fn.self);
  fewer : l.left ≤ l.fn.count;
  keeps : KeepsWindow l.fn.self l.self;
}

abbrev pub decreases-loop-left : goal.decreases-loop-left
decreases-loop-left l = l.left
