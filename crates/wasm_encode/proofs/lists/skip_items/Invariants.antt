use Rattle.std.proofs.Common.{◌≡◌, ◌-◌}
use Rattle.wasm_base.specs.Inner.{all_skipped_at}
use Rattle.wasm_base.specs.Window.{place}
use Rattle.wasm_encode.proofs.lists.skip_items.Given as goal

-- skipping those that are left comes to what skipping all of them does
abbrev pub invariant-items : goal.invariant-items
invariant-items g l = all_skipped_at g.T.SkipItem.skipped_at (l.count - l.counter) (place l.reader)
    ≡ all_skipped_at g.T.SkipItem.skipped_at l.count (place l.fn.reader)
