use Rattle.wasm_io.proofs.ForCallers.{says}
use Rattle.wasm_console.proofs.common.say.Goals as goal

pub returns : goal.returns
returns g c = says c.write_parts.result _ _ c.write_parts.ensures.ok c.write_parts.ensures.err c.write_parts.ensures.failed
