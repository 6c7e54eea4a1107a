use Rattle.wasm_examples.proofs.Common.{err_from_is_err_and, feature_bits}
use Rattle.wasm_examples.proofs.Visiting.{begun, visited, visited_less, ended_there, stopped, pushes}
use Rattle.wasm_examples.proofs.visits.visit_pieces.Goals as goal

pub steps-init : goal.steps-init
steps-init g c = rw c.new-feeder.ensures (begun g.V.Visitor.takes (feature_bits c.args.features) c.args.pieces.now
    c.iter-chunks.result.rest.now c.args.visitor.now c.iter-chunks.ensures.rest)

pub returns-in_err-visit_next : goal.returns-in_err-visit_next
returns-in_err-visit_next g c =
    let e = err_from_is_err_and c.from_residual.result c.from_residual.ensures.1 in
    rw (e.1, e.2) (stopped g.V.Visitor.takes c.args.pieces.now c.steps.invariant c.requires c.visit_next.new.feeder c.visit_next.new.visitor
    c.in_err-visit_next.field-0.0 (rw c.in_err-visit_next.was at c.visit_next.ensures))

pub steps-smaller-in-Visited : goal.steps-smaller-in-Visited
steps-smaller-in-Visited g c = visited_less g.V.Visitor.takes c.args.pieces.now c.steps.invariant c.requires c.visit_next.new.feeder
    c.visit_next.new.visitor (rw (c.in_ok-visit_next.was, c.in-Visited.is) at c.visit_next.ensures)

pub steps-preserved-in-Visited : goal.steps-preserved-in-Visited
steps-preserved-in-Visited g c = visited g.V.Visitor.takes c.args.pieces.now c.steps.invariant c.requires c.visit_next.new.feeder
    c.visit_next.new.visitor (rw (c.in_ok-visit_next.was, c.in-Visited.is) at c.visit_next.ensures)

pub steps-preserved-in-Some : goal.steps-preserved-in-Some
steps-preserved-in-Some g c = rw c.in_ok-push-in-Some.ensures.ok (pushes g.V.Visitor.takes c.args.pieces.now c.steps.invariant c.requires
    c.visit_next.new.feeder c.visit_next.new.visitor (rw (c.in_ok-visit_next.was, c.in-Asked.is) at c.visit_next.ensures)
    c.in-Some.ensures.steps (rw (c.stored.ensures, c.in_ok-push-in-Some.ensures.ok) at c.max-most.ensures))

pub returns-in-Ended : goal.returns-in-Ended
returns-in-Ended g c = ended_there g.V.Visitor.takes c.args.pieces.now c.steps.invariant c.requires c.visit_next.new.feeder
    c.visit_next.new.visitor (rw (c.in_ok-visit_next.was, c.in-Ended.is) at c.visit_next.ensures)
