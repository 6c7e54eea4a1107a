use Rattle.wasm_frames.proofs.Common.{err_from_is_err_and}
use Rattle.wasm_frames.proofs.Forms.{start_read, start_refused}
use Rattle.wasm_frames.proofs.parts.start.Goals as goal

pub returns-in_err-func : goal.returns-in_err-func
returns-in_err-func g c =
    let e = err_from_is_err_and c.from_residual.result c.from_residual.ensures.1 in
    λ context end. rw (e.1, e.2)
    (start_refused context c.args.id end c.args.window c.requires _ c.in_err-func.ensures.reads c.in_err-func.ensures.hints)

pub returns : goal.returns
returns g c = λ context end. rw (c.start.ensures, c.range-range.ensures)
    (start_read context c.args.id end c.args.window c.requires c.in_ok-func.func c.in_ok-func.ensures.reads)
