use Rattle.wasm_examples.proofs.Common.{err_from_is_err_and, UnlessMemory, gives_owned, after_item, at_a_fault}
use Rattle.wasm_examples.proofs.walks.check_in.Goals as goal

pub returns-in_err-one : goal.returns-in_err-one
returns-in_err-one g c =
    let next = rw c.in_err-one.was at c.in-Some.ensures.steps in
    let p = err_from_is_err_and c.from_residual.result c.from_residual.ensures.1 in
    rw (p.1, p.2) (at_a_fault (UnlessMemory g.T.FromReaderIn.meaning) c.args.section.count _ c.loop-one.one-iterator c.next.new.self _
    c.loop-one.invariant.walked c.loop-one.invariant.going (gives_owned next))

pub loop-one-preserved : goal.loop-one-preserved
loop-one-preserved g c =
    let next = rw c.in_ok-one.was at c.in-Some.ensures.steps in
    let step = after_item (UnlessMemory g.T.FromReaderIn.meaning) c.args.section.count _ c.loop-one.one-iterator c.next.new.self
    c.in_ok-one.field-0 c.loop-one.invariant.walked c.loop-one.invariant.going (gives_owned next) in
    record { can = tt; finite = tt; going = step.0; walked = step.1 }
