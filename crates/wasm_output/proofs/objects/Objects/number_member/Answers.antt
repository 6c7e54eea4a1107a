use Rattle.wasm_output.proofs.Common.{arith}
use Rattle.wasm_output.proofs.MemberTexts.{number_member_leads}
use Rattle.wasm_output.proofs.objects.Objects.number_member.Goals as goal

pub short-requires : goal.short-requires
short-requires g c = search (arith, number_member_leads)
