use Rattle.wasm_output.proofs.Common.{arith}
use Rattle.wasm_output.proofs.MemberTexts.{item_leads}
use Rattle.wasm_output.proofs.objects.Objects.begin_item.Goals as goal

pub short-requires : goal.short-requires
short-requires g c = search (arith, item_leads)
