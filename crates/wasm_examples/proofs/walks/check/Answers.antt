use Rattle.wasm_examples.proofs.Common.{err_from_is_err_and, gives, after_item, at_a_fault}
use Rattle.wasm_examples.proofs.walks.check.Goals as goal

pub returns-in_err-item : goal.returns-in_err-item
returns-in_err-item g c =
    let next = rw c.in_err-item.was at c.in-Some.ensures.steps in
    let p = err_from_is_err_and c.from_residual.result c.from_residual.ensures.1 in
    rw (p.1, p.2) (at_a_fault g.T.FromReader.meaning c.args.section.count _ c.loop-item.item-iterator c.next.new.self _
    c.loop-item.invariant.walked c.loop-item.invariant.going (gives next))

pub loop-item-preserved : goal.loop-item-preserved
loop-item-preserved g c =
    let next = rw c.in_ok-item.was at c.in-Some.ensures.steps in
    let step = after_item g.T.FromReader.meaning c.args.section.count _ c.loop-item.item-iterator c.next.new.self c.in_ok-item.field-0
    c.loop-item.invariant.walked c.loop-item.invariant.going (gives next) in
    record { can = tt; finite = tt; going = step.0; walked = step.1 }
