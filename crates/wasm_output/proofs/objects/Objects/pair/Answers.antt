use Rattle.wasm_output.proofs.Common.{arith}
use Rattle.wasm_output.proofs.Json.{range_leads}
use Rattle.wasm_output.proofs.objects.Objects.pair.Goals as goal

pub short-requires : goal.short-requires
short-requires g c =
    record { leads = rw c.requires (range_leads c.args.first c.args.second (omega arith) (omega arith)) }
