use Rattle.wasm_streams.proofs.Common.{◌≡◌, ◌<◌, Ok, true, sym, ◌∙◌, err_from_is_err_and, beside, lending, feed_of}
use Rattle.wasm_streams.proofs.Common.{Feed, Moves, Part, Request, Stop, is_end, turn_after, weight}
use Rattle.wasm_streams.proofs.Beside.{both}
use Rattle.wasm_streams.proofs.Stepping.{weighs_same}
use Rattle.wasm_streams.specs.Step.{says}
use Rattle.wasm_streams.specs.Visits.{Stages, Taken}
use Rattle.wasm_streams.specs.declared.turns.Ended.TheVariants.{End}
use Rattle.wasm_io.specs.Calls.{Device, device_of}
use Rattle.wasm_streams.proofs.visits.visit.Given.{Over}
use Rattle.wasm_streams.proofs.visits.visit.Goals.{After-next_frame_for, After-pass_borrowed, After-take_part, In_ok-take_part-in-Parsed}
use Rattle.wasm_streams.proofs.visits.visit.Goals.{In-Fault, In-NeedMoreData}
use Rattle.wasm_streams.proofs.visits.visit.Goals as goal

-- the parser made a step
moves_so : (g : Over) (c : After-next_frame_for g)
    → Moves (beside (feed_of c.events.stored.items c.events.cursor) c.events.ahead) (says c.next_frame_for.result)
    (lending c.make_ready.new.stored.items c.make_ready.new.self c.next_frame_for.new.cursor)
moves_so g c =
    let a = c.next_frame_for.ensures in
    both _ _ c.in-Ok.ensures.same c.in-Ok.ensures.enough c.seen.ensures c.deref.ensures.value c.bytes.ensures a.parses a.shows
    a.finished a.wants

-- by a part, which the visitor took
part_so : (g : Over) (c : After-take_part g)
    → Moves (beside (feed_of c.events.stored.items c.events.cursor) c.events.ahead) (Part c.in-Parsed.frame c.in-Parsed.bytes.now)
    (lending c.make_ready.new.stored.items c.make_ready.new.self c.next_frame_for.new.cursor)
part_so g c = rw c.in-Parsed.is at (moves_so g (goal.at.After-take_part g c).After-next_frame_for)

taken_so : (g : Over) (c : In_ok-take_part-in-Parsed g) → Taken g.V.Visitor.stages c.args.visitor.now c.args.output.now
    (device_of g.R.Source.remaining g.R.Source.has_failed c.args.input.now c.events.input)
    (beside (feed_of c.events.stored.items c.events.cursor) c.events.ahead)
    (lending c.make_ready.new.stored.items c.make_ready.new.self c.next_frame_for.new.cursor)
    (Ok (turn_after (Part c.in-Parsed.frame c.in-Parsed.bytes.now))) c.take_part.new.self c.take_part.new.output
taken_so g c = c.in_ok-take_part-in-Parsed.ensures.takes _ _ _ _ _ c.events.invariant.input c.events.invariant.going
    (part_so g (goal.at.In_ok-take_part-in-Parsed g c).After-take_part)

-- it was the end
ended_so : (g : Over) (c : In_ok-take_part-in-Parsed g) → is_end c.in-Parsed.frame ≡ true → g.V.Visitor.stages.ending
    c.args.visitor.now c.args.output.now (device_of g.R.Source.remaining g.R.Source.has_failed c.args.input.now c.events.input) End
    c.take_part.new.self c.take_part.new.output
ended_so g c is = rw is at (taken_so g c)

-- what is so of a feeder is so of an equal one
same_feed : {V W : Type 0} (stages : Stages V W) (first : V) (start : W) (input : Device) (e f g : Feed) (now : V) (out : W) → g ≡ f
    → stages.going first start input f now out × (weight f < weight e) → stages.going first start input g now out × (weight g < weight e)
same_feed stages first start input e f g now out same p = rw same p

-- it was not, and is behind the cursor
advanced_so : (g : Over) (c : After-pass_borrowed g) → g.V.Visitor.stages.going c.args.visitor.now c.args.output.now
    (device_of g.R.Source.remaining g.R.Source.has_failed c.args.input.now c.events.input)
    (beside (feed_of c.make_ready.new.stored.items c.pass_borrowed.new.cursor) c.pass_borrowed.new.self)
    c.take_part.new.self c.take_part.new.output
    × (weight (beside (feed_of c.make_ready.new.stored.items c.pass_borrowed.new.cursor) c.pass_borrowed.new.self)
    < weight (beside (feed_of c.events.stored.items c.events.cursor) c.events.ahead))
advanced_so g c = same_feed g.V.Visitor.stages _ _ _ (beside (feed_of c.events.stored.items c.events.cursor) c.events.ahead) _ _ _ _
    (rw c.deref-in-Parsed.ensures.value at c.pass_borrowed.ensures)
    (rw (sym c.is_end-is_last.ensures ∙ c.if-is_last.false) at (taken_so g (goal.at.After-pass_borrowed g c).In_ok-take_part-in-Parsed))

pub returns-in_err-take_part-in-Parsed : goal.returns-in_err-take_part-in-Parsed
returns-in_err-take_part-in-Parsed g c =
    let e = err_from_is_err_and c.from_residual.result c.from_residual.ensures.1 in
    record {
      done = rw (e.1, e.2) (c.in_err-take_part-in-Parsed.ensures.takes _ _ _ _ _ c.events.invariant.input
          c.events.invariant.going (part_so g (goal.at.returns-in_err-take_part-in-Parsed g c).After-take_part));
    }

pub returns-in_err-finish-in-Parsed : goal.returns-in_err-finish-in-Parsed
returns-in_err-finish-in-Parsed g c =
    let e = err_from_is_err_and c.from_residual-in_err-finish-in-Parsed.result c.from_residual-in_err-finish-in-Parsed.ensures.1 in
    let ends = ended_so g (goal.at.returns-in_err-finish-in-Parsed g c).In_ok-take_part-in-Parsed
    (sym c.is_end-is_last.ensures ∙ c.if-is_last.true) in
    record { done = rw (e.1, e.2) (c.in_err-finish-in-Parsed.ensures.finishes _ _ _ _ c.events.invariant.input ends) }

pub returns-then-is_last : goal.returns-then-is_last
returns-then-is_last g c =
    let ends = ended_so g (goal.at.returns-then-is_last g c).In_ok-take_part-in-Parsed
    (sym c.is_end-is_last.ensures ∙ c.if-is_last.true) in
    record { done = c.in_ok-finish-in-Parsed.ensures.finishes _ _ _ _ c.events.invariant.input ends }

pub events-smaller-in-Parsed : goal.events-smaller-in-Parsed
events-smaller-in-Parsed g c = (advanced_so g c).1

pub events-preserved-in-Parsed : goal.events-preserved-in-Parsed
events-preserved-in-Parsed g c = record {
  going = (advanced_so g c).0;
  input = c.events.invariant.input;
  sound = c.in_ok-take_part-in-Parsed.ensures.sound;
}

-- by a request
asked_so : (g : Over) (c : In-NeedMoreData g)
    → Moves (beside (feed_of c.events.stored.items c.events.cursor) c.events.ahead) (Request c.in-NeedMoreData.field-0)
    (lending c.make_ready.new.stored.items c.make_ready.new.self c.next_frame_for.new.cursor)
asked_so g c = rw c.in-NeedMoreData.is at (moves_so g (goal.at.In-NeedMoreData g c).After-next_frame_for)

pub returns-in_err-fault-in-NeedMoreData : goal.returns-in_err-fault-in-NeedMoreData
returns-in_err-fault-in-NeedMoreData g c =
    let e = err_from_is_err_and c.from_residual-in_err-fault-in-NeedMoreData.result
    c.from_residual-in_err-fault-in-NeedMoreData.ensures.1 in
    record {
      done = rw (e.1, e.2) (c.in_err-fault-in-NeedMoreData.ensures.meets _ _ _ _ _ _ c.events.invariant.input
          c.events.invariant.going (asked_so g (goal.at.returns-in_err-fault-in-NeedMoreData g c).In-NeedMoreData));
    }

pub returns-in-Some : goal.returns-in-Some
returns-in-Some g c = record {
  done = (rw c.in-Some.is at c.in_ok-fault-in-NeedMoreData.ensures.meets) _ _ _ _ _ _ c.events.invariant.input
      c.events.invariant.going (asked_so g (goal.at.returns-in-Some g c).In-NeedMoreData);
}

pub events-smaller : goal.events-smaller
events-smaller g c =
    let asked = asked_so g (goal.at.events-smaller g c).In-NeedMoreData in
    let less = ((rw c.in_default.is at c.in_ok-fault-in-NeedMoreData.ensures.meets) _ _ _ _ _ _ c.events.invariant.input
    c.events.invariant.going asked).1 in
    rw (weighs_same _ _ _ asked) at less

pub events-preserved : goal.events-preserved
events-preserved g c = record {
  going = ((rw c.in_default.is at c.in_ok-fault-in-NeedMoreData.ensures.meets) _ _ _ _ _ _ c.events.invariant.input
      c.events.invariant.going (asked_so g (goal.at.events-preserved g c).In-NeedMoreData)).0;
  input = c.in_ok-fault-in-NeedMoreData.ensures.source ∙ c.events.invariant.input;
  sound = c.in_ok-fault-in-NeedMoreData.ensures.sound;
}

-- by a fault
stopped_so : (g : Over) (c : In-Fault g)
    → Moves (beside (feed_of c.events.stored.items c.events.cursor) c.events.ahead) (Stop c.in-Fault.error)
    (lending c.make_ready.new.stored.items c.make_ready.new.self c.next_frame_for.new.cursor)
stopped_so g c = rw c.in-Fault.is at (moves_so g (goal.at.In-Fault g c).After-next_frame_for)

pub returns-in_err-take_fault-in-Fault : goal.returns-in_err-take_fault-in-Fault
returns-in_err-take_fault-in-Fault g c =
    let e = err_from_is_err_and c.from_residual-in_err-take_fault-in-Fault.result c.from_residual-in_err-take_fault-in-Fault.ensures.1 in
    record {
      done = rw (e.1, e.2) (c.in_err-take_fault-in-Fault.ensures.takes _ _ _ _ _ c.events.invariant.input
          c.events.invariant.going (stopped_so g (goal.at.returns-in_err-take_fault-in-Fault g c).In-Fault));
    }

pub returns-in_err-finish-in-Fault : goal.returns-in_err-finish-in-Fault
returns-in_err-finish-in-Fault g c =
    let e = err_from_is_err_and c.from_residual-in_err-finish-in-Fault.result c.from_residual-in_err-finish-in-Fault.ensures.1 in
    let ends = c.in_ok-take_fault-in-Fault.ensures.takes _ _ _ _ _ c.events.invariant.input c.events.invariant.going
    (stopped_so g (goal.at.returns-in_err-finish-in-Fault g c).In-Fault) in
    record { done = rw (e.1, e.2) (c.in_err-finish-in-Fault.ensures.finishes _ _ _ _ c.events.invariant.input ends) }

pub returns-in-Fault : goal.returns-in-Fault
returns-in-Fault g c =
    let ends = c.in_ok-take_fault-in-Fault.ensures.takes _ _ _ _ _ c.events.invariant.input c.events.invariant.going
    (stopped_so g (goal.at.returns-in-Fault g c).In-Fault) in
    record { done = c.in_ok-finish-in-Fault.ensures.finishes _ _ _ _ c.events.invariant.input ends }
