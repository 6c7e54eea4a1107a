use Rattle.wasm_streams.proofs.Common.{err_from_is_err_and}
use Rattle.wasm_streams.proofs.PassedParts.{part_passed, part_cut, settled_up, unsettled_up}
use Rattle.wasm_streams.proofs.passing.pass_part.Goals as goal

pub returns-in_err-pass_missing-clause-cut : goal.returns-in_err-pass_missing-clause-cut
returns-in_err-pass_missing-clause-cut g c =
    let e = err_from_is_err_and c.from_residual-in_err-pass_missing.result c.from_residual-in_err-pass_missing.ensures.1 in
    rw (e.1, e.2) (settled_up c.in_ok-held.ensures.settles c.requires c.in_err-pass_missing.ensures.cut)

pub returns-in_err-held-clause-cut : goal.returns-in_err-held-clause-cut
returns-in_err-held-clause-cut g c =
    let e = err_from_is_err_and c.from_residual.result c.from_residual.ensures.1 in
    rw (e.1, e.2) (unsettled_up c.in_err-held.ensures.cut c.in_err-held.ensures.stays c.requires)

pub returns-then-branch-clause-passes : goal.returns-then-branch-clause-passes
returns-then-branch-clause-passes g c =
    part_passed c.args.passing c.in_ok-held.ensures.settles c.in_ok-pass_missing.ensures.passes c.requires c.if-branch.true

pub returns-else-branch-clause-passes : goal.returns-else-branch-clause-passes
returns-else-branch-clause-passes g c =
    part_cut c.args.passing c.in_ok-held.ensures.settles c.in_ok-pass_missing.ensures.passes c.requires _
    c.if-branch.false c.new.ensures.report
