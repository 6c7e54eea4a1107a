use Rattle.wasm_output.proofs.Common.{arith}
use Rattle.wasm_output.proofs.Json.{plain_run_stays}
use Rattle.wasm_output.proofs.objects.Objects.put_string.Goals as goal

pub put-requires-clause-leads : goal.put-requires-clause-leads
put-requires-clause-leads g c = grind (arith, plain_run_stays)
