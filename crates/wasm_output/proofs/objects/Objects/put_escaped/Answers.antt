use Rattle.wasm_output.proofs.Common.{arith}
use Rattle.wasm_output.proofs.Json.{escaped_stays}
use Rattle.wasm_output.proofs.objects.Objects.put_escaped.Goals as goal

pub put-requires-clause-leads : goal.put-requires-clause-leads
put-requires-clause-leads g c = grind (arith, escaped_stays)
