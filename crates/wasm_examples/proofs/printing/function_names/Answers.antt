use Rattle.wasm_examples.proofs.Common.{arith, refl, inr, err_from_is_err_and}
use Rattle.wasm_examples.proofs.Folding.{taken, not_taken, not_read, nothing_came}
use Rattle.wasm_examples.proofs.printing.function_names.Goals as goal

pub returns-in_err-payload : goal.returns-in_err-payload
returns-in_err-payload c =
    let p = err_from_is_err_and c.from_residual.result c.from_residual.ensures.1 in
    rw (p.1, p.2) (inr (not_read c.loop-payload.invariant.came (omega arith) c.in-Some.ensures.steps c.in_err-payload.was refl))

pub returns-in_err-take : goal.returns-in_err-take
returns-in_err-take c =
    let p = err_from_is_err_and c.from_residual-in_err-take.result c.from_residual-in_err-take.ensures.1 in
    rw (p.1, p.2) (not_taken c.loop-payload.invariant.came (omega arith) c.in-Some.ensures.steps c.in_ok-payload.was
    c.in_err-take.ensures)

pub loop-payload-preserved : goal.loop-payload-preserved
loop-payload-preserved c = record {
  can = tt;
  finite = tt;
  came = taken c.loop-payload.invariant.came (omega arith) c.in-Some.ensures.steps c.in_ok-payload.was c.in_ok-take.ensures;
}

pub returns : goal.returns
returns c = nothing_came c.loop-payload.invariant.came (omega arith) c.in-None.ensures.steps
