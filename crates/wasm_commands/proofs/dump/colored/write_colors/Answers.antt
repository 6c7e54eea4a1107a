use Rattle.std.proofs.lemmas.Result.{err_from_is_err_and}
use Rattle.wasm_commands.proofs.Coloring.{colored_bound, colored_written, sequence_failed}
use Rattle.wasm_commands.proofs.dump.colored.write_colors.Goals as goal

pub returns-in_err-written-clause-bytes : goal.returns-in_err-written-clause-bytes
returns-in_err-written-clause-bytes g c =
    let err = c.in_err-written.ensures.err in
    let failed = err_from_is_err_and c.from_residual.result c.from_residual.ensures.1 in
    rw (failed.1) (sequence_failed err.0 c.sequence.result.now _ _ c.sequence.ensures.sets err.1)

pub returns-clause-bound : goal.returns-clause-bound
returns-clause-bound g c =
    rw c.count_written-count.ensures
    (colored_bound c.args.first c.in_ok-written.written c.args.later.now c.gather-run.result.text c.gather-run.ensures.colored)

pub returns-clause-bytes : goal.returns-clause-bytes
returns-clause-bytes g c =
    rw c.count_written-count.ensures
    (colored_written c.args.first c.in_ok-written.written c.args.later.now c.sequence.result.now c.gather-run.result.text _ _
    c.sequence.ensures.sets c.gather-run.ensures.colored (rw c.as_bytes.ensures.bytes at c.in_ok-written.ensures.ok))
