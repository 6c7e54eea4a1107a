use Rattle.wasm_feed.proofs.Common.{Bool, List, sym, subst₂, ◌∙◌, HasEnded}
use Rattle.wasm_feed.specs.declared.events.Event.{Event}
use Rattle.wasm_feed.proofs.Adding.{asks, adds, ends, fewer}
use Rattle.wasm_streams.proofs.ForCallers.{steps_in}
use Rattle.wasm_feed.proofs.pieces.read_held.Goals as goal

pub returns-in-None-clause-reads : goal.returns-in-None-clause-reads
returns-in-None-clause-reads g c s =
    let p = c.parse_next.ensures.steps in
    let by = steps_in c.args.bytes.now c.steps.cursor _ _ p.parses p.shows p.finished p.wants in
    let none = rw c.in-None.is at c.in_ok-event_of.ensures.is in
    let r = asks _ _ _ _ _ _ (c.steps.invariant.comes s.start s.features s.given s.has_come s.below) s.below _ by none in
    (r.0, sym c.steps.invariant.eof ∙ r.1)

pub returns-then-is_last-clause-reads : goal.returns-then-is_last-clause-reads
returns-then-is_last-clause-reads g c s =
    let p = c.parse_next.ensures.steps in
    let by = steps_in c.args.bytes.now c.steps.cursor _ _ p.parses p.shows p.finished p.wants in
    let some = rw c.in-Some.is at c.in_ok-event_of.ensures.is in
    let r = ends _ _ _ _ _ _ (c.steps.invariant.comes s.start s.features s.given s.has_come s.below) s.below _ _ by some
    (sym c.if-is_last.ensures) in
    subst₂ (λ (eof : Bool) (values : List (Event g.row.A.Denot)). HasEnded s.start s.features eof s.given values) c.steps.invariant.eof
    (sym c.in_ok-push-in-Some.ensures.items) r

pub steps-smaller : goal.steps-smaller
steps-smaller g c =
    let p = c.parse_next.ensures.steps in
    let by = steps_in c.args.bytes.now c.steps.cursor _ _ p.parses p.shows p.finished p.wants in
    let some = rw c.in-Some.is at c.in_ok-event_of.ensures.is in
    fewer _ _ _ _ by some (sym c.if-is_last.ensures)

pub steps-preserved : goal.steps-preserved
steps-preserved g c =
    let p = c.parse_next.ensures.steps in
    let by = steps_in c.args.bytes.now c.steps.cursor _ _ p.parses p.shows p.finished p.wants in
    let some = rw c.in-Some.is at c.in_ok-event_of.ensures.is in
    record {
      comes = λ start features given h l.
          rw c.in_ok-push-in-Some.ensures.items (adds _ _ _ _ _ _ (c.steps.invariant.comes start features given h l) l _ _ by some
          (sym c.if-is_last.ensures));
      eof = p.finished ∙ c.steps.invariant.eof;
    }
