use Rattle.wasm_dumper.proofs.Common.{◌≡◌, ◌++◌, ap, beside, drop, err_from_is_err_and, feed_of, seen, lending, Cursor, Skips, pushed, true}
use Rattle.wasm_dumper.proofs.DroppedParts.{skips_here}
use Rattle.wasm_dumper.proofs.Requests.{failed_within, not_filled, without_memory}
use Rattle.wasm_dumper.proofs.ShortParts as short
use Rattle.wasm_streams.proofs.ForCallers.{reads_on}
use Rattle.wasm_dumper.proofs.hidden.supply.Given.{Over}
use Rattle.wasm_dumper.proofs.hidden.supply.Goals.{In-Some}
use Rattle.wasm_dumper.proofs.hidden.supply.Goals as goal

-- the parser has skipped the next part
skips_so : (g : Over) (c : In-Some g) → Skips c.args.shown.only.now c.args.shown.has_bytes c.args.cursor.now
    (seen c.args.stored.now.items c.args.ahead.now) c.in-Some.field-0 c.skip_unread.new.cursor
skips_so g c = skips_here _ _ _ _ _ _ _ _ _ _ c.seen-bytes.ensures c.deref.ensures.value c.bytes.ensures
    (rw c.in-Some.is at c.in_ok-passing.ensures.skips)

pub returns-in_err-passing-clause-meets : goal.returns-in_err-passing-clause-meets
returns-in_err-passing-clause-meets g c full events a =
    let e = err_from_is_err_and c.from_residual.result c.from_residual.ensures.1 in
    rw (e.1, e.2) (without_memory full _ _ events a _ _ c.in_err-passing.ensures.memory)

pub returns-in_err-refill-clause-meets : goal.returns-in_err-refill-clause-meets
returns-in_err-refill-clause-meets g c full events a =
    let e = err_from_is_err_and c.from_residual-in_err-refill.result c.from_residual-in_err-refill.ensures.1 in
    rw (e.1, e.2) (not_filled full _ _ events a _ _ _ (beside (feed_of c.refill.new.stored.items c.refill.new.cursor) c.refill.new.self) _
    c.in_err-refill.ensures.refills c.in_err-refill.ensures.failed)

pub returns-in_default-clause-meets : goal.returns-in_default-clause-meets
returns-in_default-clause-meets g c full events a =
    let kept : c.skip_unread.new.cursor ≡ c.args.cursor.now = rw c.in_default.is at c.in_ok-passing.ensures.skips in
    reads_on full _ _ events a _ _ (rw kept at c.in_ok-refill.ensures.refills)

pub returns-in_err-drop_part-clause-meets : goal.returns-in_err-drop_part-clause-meets
returns-in_err-drop_part-clause-meets g c full events a =
    let h = skips_so g (goal.at.returns-in_err-drop_part-clause-meets g c).In-Some in
    let e = err_from_is_err_and c.from_residual-in_err-drop_part.result c.from_residual-in_err-drop_part.ensures.1 in
    rw (e.1, e.2) (failed_within _ _ full _ _ c.args.stored.now.items c.args.ahead.now events a _ _ h _ _ _ _
    c.in_err-drop_part.ensures.fails c.in_err-drop_part.ensures.source)

pub returns-in-None-clause-meets : goal.returns-in-None-clause-meets
returns-in-None-clause-meets g c full events a =
    let h = skips_so g (goal.at.returns-in-None-clause-meets g c).In-Some in
    let r = c.in_ok-drop_part.ensures in
    let (e, says, consumed, reached, less) = short.came _ _ full _ _ c.args.stored.now.items c.args.ahead.now events a _ _ h _ _ _
    r.drops c.in-None.is (beside (feed_of c.drop_part.new.stored.items c.drop_part.new.cursor) c.drop_part.new.ahead)
    (ap (λ (y : Cursor). y.parser) r.cursor) (λ i. drop (r.cursor i).mark (r.none i) ++ c.drop_part.new.ahead)
    (ap (λ (y : Cursor). y.is_finished) r.cursor) in
    (e, (h.skips.skip, says, h.shows), (reached, less))

pub returns-in-Some-2-clause-meets : goal.returns-in-Some-2-clause-meets
returns-in-Some-2-clause-meets g c full events a =
    let h = skips_so g (goal.at.returns-in-Some-2-clause-meets g c).In-Some in
    let x = c.in_ok-drop_part.ensures.drops in (
      record (pushed (lending c.args.stored.now.items c.args.ahead.now c.args.cursor.now) x.fetched) { eof = true },
      short.reached_short _ _ full _ _ c.args.stored.now.items c.args.ahead.now events a _ _ h _ _ _ x _ c.in-Some-2.is,
      short.fault_step _ _ full _ _ c.args.stored.now.items c.args.ahead.now events a _ _ h _ _ _ x _ c.in-Some-2.is,
    )
