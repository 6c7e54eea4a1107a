use Rattle.wasm_feed.proofs.Common.{arith, feed_of}
use Rattle.std.proofs.lemmas.List.{take_rest}
use Rattle.wasm_feed.specs.Steps.{told}
use Rattle.wasm_streams.proofs.ForCallers.{over}
use Rattle.wasm_feed.proofs.feeder.Feeder.step_over.Goals as goal

pub returns-clause-steps : goal.returns-clause-steps
returns-clause-steps g c =
    let piece = c.args.piece.now in
    let a = c.parse_next_for.ensures.steps in
    let t = c.take_left-taken.ensures in
    let stored = c.take_left-taken.new.stored.items in
    let new = feed_of stored c.take_left-taken.new.cursor in (
      c.parse_next_for.result,
      c.look-looked.ensures,
      record {
        moves = rw c.self.view_is at (over _ piece _ _ _ _ _ _ _ (told c.parse_next_for.result) c.in-Ok.ensures.ok
            (take_rest piece c.in-Ok.ready) c.seen.ensures c.deref.ensures.value a.parses a.shows a.finished a.wants a.mark
            c.take_left-taken.result stored c.take_left-taken.new.cursor t.takes t.within t.asks (omega (arith, t.bounded)) t.stays t.idle);
        items = c.parse_next_for.ensures.items;
      },
    )
