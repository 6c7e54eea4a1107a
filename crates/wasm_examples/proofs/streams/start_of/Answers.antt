use Rattle.wasm_examples.proofs.Common.{arith, refl, err_from_is_err_and}
use Rattle.wasm_examples.proofs.Folding.{taken, not_read, nothing_came, of_reading}
use Rattle.wasm_examples.proofs.streams.start_of.Goals as goal

pub returns-in_err-payload : goal.returns-in_err-payload
returns-in_err-payload c =
    let p = err_from_is_err_and c.from_residual.result c.from_residual.ensures.1 in
    rw (p.1, p.2) (of_reading (not_read c.loop-payload.invariant.came (omega arith) c.in-Some.ensures.steps c.in_err-payload.was refl))

pub loop-payload-preserved : goal.loop-payload-preserved
loop-payload-preserved c = record {
  can = tt;
  finite = tt;
  came = taken c.loop-payload.invariant.came (omega arith) c.in-Some.ensures.steps c.in_ok-payload.was (λ _. c.start_after-start.ensures);
}

pub returns : goal.returns
returns c = of_reading (nothing_came c.loop-payload.invariant.came (omega arith) c.in-None.ensures.steps)
