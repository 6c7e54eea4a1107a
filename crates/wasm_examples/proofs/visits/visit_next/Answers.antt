use Rattle.wasm_examples.proofs.Common.{ap, refl, inr, err_from_is_err_and, is_end, report_of}
use Rattle.wasm_examples.proofs.visits.visit_next.Goals as goal

pub returns-in_err-step : goal.returns-in_err-step
returns-in_err-step g c =
    let made = rw c.open.ensures.opens at c.step.ensures in
    let e = err_from_is_err_and c.from_residual.result c.from_residual.ensures.1 in
    rw (e.1, e.2) (inr (rw c.in_err-step.was at made, refl))

pub returns-in-NeedMoreData : goal.returns-in-NeedMoreData
returns-in-NeedMoreData g c =
    let made = rw c.open.ensures.opens at c.step.ensures in
    (_, rw (c.in_ok-step.was, c.in-NeedMoreData.is) at made, refl)

pub returns-in-End : goal.returns-in-End
returns-in-End g c =
    let made = rw c.open.ensures.opens at c.step.ensures in
    (_, _, rw (c.in_ok-step.was, c.in-Parsed.is) at made, ap (λ p. is_end (report_of p)) c.in-End.is, refl)
