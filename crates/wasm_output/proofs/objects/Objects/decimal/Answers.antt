use Rattle.wasm_output.proofs.Common.{arith}
use Rattle.wasm_output.proofs.Json.{number_leads}
use Rattle.wasm_output.proofs.objects.Objects.decimal.Goals as goal

pub short-requires : goal.short-requires
short-requires g c = record { leads = rw c.requires (number_leads c.args.number (omega arith)) }
