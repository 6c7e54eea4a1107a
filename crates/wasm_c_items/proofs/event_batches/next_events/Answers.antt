use Rattle.std.proofs.Common.{nat_eq, ap, arith}
use Rattle.std.proofs.lemmas.Bool.{ne_eqb}
use Rattle.std.proofs.lemmas.List.{length-set}
use Rattle.wasm_frames.specs.Stored.{parser_of}
use Rattle.wasm_c_items.proofs.EventBatches.{ends_at, goes_on_at, is_full}
use Rattle.wasm_c_items.proofs.event_batches.next_events.Goals as goal

pub loop-count-preserved : goal.loop-count-preserved
loop-count-preserved c =
    let within = c.loop-count-test.true in
    let event = c.next_event-event.result in
    record {
      within = omega (arith, length-set c.loop-count.out c.loop-count.count event, within);
      stored = rw (c.saturating_add-at.ensures, c.after-rest.ensures) (goes_on_at c.args.is_all _ (parser_of c.loop-count.parser) _ _ _ _
          c.loop-count.out c.loop-count.count c.loop-count.at event c.next_event-event.ensures (ne_eqb _ 0 c.if-consumed-eq0.false) within
          c.loop-count.invariant.stored);
    }

pub returns-then-consumed-eq0 : goal.returns-then-consumed-eq0
returns-then-consumed-eq0 c =
    ends_at c.args.is_all _ (parser_of c.loop-count.parser) _ _ _ _ c.loop-count.out c.loop-count.count c.loop-count.at
    c.next_event-event.result c.next_event-event.ensures (ap (λ k. nat_eq k 0) c.if-consumed-eq0.true) c.loop-count-test.true
    c.loop-count.invariant.stored

pub returns : goal.returns
returns c = is_full c.args.is_all _ (parser_of c.loop-count.parser) _ _ _ c.loop-count.out c.loop-count.count c.loop-count.at
    c.loop-count.invariant.within (omega (arith, c.loop-count-test.false)) c.loop-count.invariant.stored
