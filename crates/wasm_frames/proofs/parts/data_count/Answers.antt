use Rattle.wasm_frames.proofs.Common.{err_from_is_err_and}
use Rattle.wasm_frames.proofs.Forms.{data_count_read, data_count_refused}
use Rattle.wasm_frames.proofs.parts.data_count.Goals as goal

pub returns-in_err-count : goal.returns-in_err-count
returns-in_err-count g c =
    let e = err_from_is_err_and c.from_residual.result c.from_residual.ensures.1 in
    λ context end. rw (e.1, e.2)
    (data_count_refused context c.args.id end c.args.window c.requires _ c.in_err-count.ensures.reads c.in_err-count.ensures.hints)

pub returns : goal.returns
returns g c = λ context end. rw (c.data_count.ensures, c.range-range.ensures)
    (data_count_read context c.args.id end c.args.window c.requires c.in_ok-count.count c.in_ok-count.ensures.reads)
