use Rattle.wasm_output.proofs.Putting.{puts_more}
use Rattle.wasm_output.proofs.output.Output.put_short.Goals as goal

pub returns : goal.returns
returns g c = puts_more _ _ _ c.put_text.ensures
