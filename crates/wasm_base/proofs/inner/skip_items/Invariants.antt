use Rattle.std.proofs.Common.{◌≡◌, ◌-◌}
use Rattle.wasm_base.specs.Inner.{all_skipped_at}
use Rattle.wasm_base.specs.Window.{place, KeepsWindow}
use Rattle.wasm_base.proofs.inner.skip_items.Given as goal

-- passing over those that are left comes to what passing over all of them does
abbrev pub invariant-items : goal.invariant-items
invariant-items g l = record {
  so_far : all_skipped_at g.T.SkipItem.skipped_at (l.count - l.counter) (place l.reader)
      ≡ all_skipped_at g.T.SkipItem.skipped_at l.count (place l.fn.reader);
  keeps : KeepsWindow l.fn.reader l.reader;
}
