use Rattle.wasm_output.proofs.Common.{arith}
use Rattle.wasm_output.proofs.MemberTexts.{number_members_lead}
use Rattle.wasm_output.proofs.objects.Objects.number_members.Goals as goal

pub short-requires : goal.short-requires
short-requires g c = search (arith, number_members_lead)
