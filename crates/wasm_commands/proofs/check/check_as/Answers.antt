use Rattle.std.specs.String.{string_bytes}
use Rattle.wasm_io.specs.Calls.{from_to}
use Rattle.wasm_show.specs.Noted.{found_by}
use Rattle.wasm_commands.proofs.Checking.{checks}
use Rattle.wasm_commands.proofs.check.check_as.Goals as goal

pub returns-clause-checks : goal.returns-clause-checks
returns-clause-checks g c = checks (from_to (g.R.Source.remaining c.args.input.now) (g.R.Source.remaining c.find_faults-found.new.input))
    (g.W.Write.contents c.args.output.writer) (g.W.Write.contents c.flushed.new.output.writer) c.args.output.failed
    (string_bytes c.args.prefix) c.args.is_quiet (found_by c.find_faults-found.new.faults)
    (rw c.into_output-output.ensures.taken at c.flushed.ensures.bytes) c.find_faults-found.result c.flushed.result
    (rw c.new-faults.ensures at c.find_faults-found.ensures) c.flushed.ensures.found
