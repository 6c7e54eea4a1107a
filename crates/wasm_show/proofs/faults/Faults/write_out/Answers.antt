use Rattle.wasm_output.proofs.ForCallers.{puts_more}
use Rattle.wasm_show.proofs.faults.Faults.write_out.Goals as goal

pub returns-clause-puts : goal.returns-clause-puts
returns-clause-puts g c = puts_more _ _ _ c.write_out.ensures.puts
