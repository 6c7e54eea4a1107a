use Rattle.wasm_output.proofs.Common.{arith}
use Rattle.wasm_output.proofs.Json.{leads_from, plain_run_stays}
use Rattle.wasm_output.proofs.Saying.{plain_decimal}
use Rattle.wasm_output.proofs.objects.ObjectsTree.digits.Goals as goal

pub short-requires : goal.short-requires
short-requires g c = search (arith, leads_from, plain_run_stays, plain_decimal)
