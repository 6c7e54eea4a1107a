use Rattle.wasm_output.proofs.MemberTexts.{member_leads}
use Rattle.wasm_output.proofs.objects.Objects.begin_plain_member.Goals as goal

pub short-requires : goal.short-requires
short-requires g c = record { leads = member_leads c.args.self.now.spot c.args.name c.requires }
