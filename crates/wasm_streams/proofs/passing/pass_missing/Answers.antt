use Rattle.wasm_streams.proofs.Common.{refl, arith, err_from_is_err_and}
use Rattle.wasm_streams.proofs.PassedParts.{none_passed, passed_more, passed_end, passed_up}
use Rattle.wasm_streams.proofs.passing.pass_missing.Goals as goal

pub chunks-init : goal.chunks-init
chunks-init g c = record { passed = none_passed _ _ _ _ _ _; input = refl; output = refl }

pub returns-in_err-count-clause-cut : goal.returns-in_err-count-clause-cut
returns-in_err-count-clause-cut g c =
    let e = err_from_is_err_and c.from_residual.result c.from_residual.ensures.1 in
    rw (e.1, e.2) (passed_up c.chunks.invariant.passed c.in_err-count.ensures.cut)

pub returns-then-count-eq0-clause-passes : goal.returns-then-count-eq0-clause-passes
returns-then-count-eq0-clause-passes g c =
    passed_end c.chunks.invariant.passed c.in_ok-count.ensures.takes c.chunks-test.true c.if-count-eq0.true

pub chunks-preserved : goal.chunks-preserved
chunks-preserved g c = grind (arith, passed_more)
