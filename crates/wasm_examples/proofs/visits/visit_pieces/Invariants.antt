use Rattle.wasm_examples.proofs.Common.{◌+◌, length, cond, feature_bits, joined}
use Rattle.wasm_examples.proofs.Visiting.{Visited}
use Rattle.wasm_examples.proofs.visits.visit_pieces.Given as goal

abbrev pub invariant-steps : goal.invariant-steps
invariant-steps g l =
    Visited g.V.Visitor.takes (feature_bits l.fn.features) (joined l.pieces) l.initial.visitor l.feeder l.chunks.rest.now l.visitor l.most

abbrev pub decreases-steps : goal.decreases-steps
decreases-steps g l = length l.feeder.held + length (joined l.chunks.rest.now) + length l.chunks.rest.now + cond l.feeder.eof 0 1
