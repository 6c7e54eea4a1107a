use Rattle.wasm_feed.proofs.Common.{◌≡◌, ℕ, ◌+◌, ◌^◌, ◌<◌, List, length, feed_of, HasCome}
use Rattle.wasm_feed.proofs.pieces.read_held.Given as goal

-- the events since the start were added
abbrev pub invariant-steps : goal.invariant-steps
invariant-steps g l =
    let old = feed_of l.fn.bytes l.initial.cursor in
    let new = feed_of l.fn.bytes l.cursor in
    record {
      comes : (start features : ℕ) (given : List ℕ) → HasCome start features given old l.initial.events.items
          → start + length given < 2 ^ 64 → HasCome start features given new l.events.items;
      eof : new.eof ≡ old.eof;
    }

abbrev pub decreases-steps : goal.decreases-steps
decreases-steps g l = length (feed_of l.fn.bytes l.cursor).held
