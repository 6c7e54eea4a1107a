use Rattle.std.proofs.Common.{ap, sym, ◌∙◌}
use Rattle.std.proofs.lemmas.Result.{err_from_is_err_and}
use Rattle.wasm_io.specs.Calls.{device_of}
use Rattle.wasm_show.specs.Noted.{found_by}
use Rattle.wasm_commands.proofs.Checking.{reads_all, reads_first, reads_on}
use Rattle.wasm_commands.proofs.check.find_faults.Goals as goal

pub returns-in_err-walked : goal.returns-in_err-walked
returns-in_err-walked g c =
    let x = err_from_is_err_and c.from_residual.result c.from_residual.ensures.1 in
    rw x.1 (reads_first c.args.faults.now c.walk-walked.new.walker (found_by c.write_out.new.self)
    c.write_out.ensures.puts c.write_out.ensures.out
    (device_of g.R.Source.remaining g.R.Source.has_failed c.args.input.now c.walk-walked.new.input) c.in_err-walked.field-0.0
    c.in_err-walked.ensures)

pub returns-in-None : goal.returns-in-None
returns-in-None g c =
    let going = sym c.why_stopped.ensures ∙ c.in-None.is in
    rw c.has_faults.ensures (reads_on c.args.faults.now c.walk-walked.new.walker (found_by c.write_out.new.self)
    c.write_out.ensures.puts c.write_out.ensures.out
    (device_of g.R.Source.remaining g.R.Source.has_failed c.args.input.now c.walk-walked.new.input) c.in_ok-walked.field-0
    c.in_ok-walked.ensures (ap found_by c.write_out.ensures.kept) going)

pub returns-in-Some : goal.returns-in-Some
returns-in-Some g c = reads_all c.args.faults.now c.walk-walked.new.walker (found_by c.write_out.new.self)
    c.write_out.ensures.puts c.write_out.ensures.out
    (device_of g.R.Source.remaining g.R.Source.has_failed c.args.input.now c.walk-walked.new.input) c.in_ok-walked.field-0
    c.in_ok-walked.ensures
