use Rattle.wasm_output.proofs.Common.{arith}
use Rattle.wasm_output.proofs.Json.{leads_from, plain_run_stays}
use Rattle.wasm_output.proofs.objects.Objects.plain_text.Goals as goal

pub put-requires-clause-leads : goal.put-requires-clause-leads
put-requires-clause-leads g c = search (arith, leads_from, plain_run_stays)
