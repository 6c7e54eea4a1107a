use Rattle.wasm_output.proofs.MemberTexts.{text_leads}
use Rattle.wasm_output.proofs.objects.Objects.begin_text.Goals as goal

pub short-requires : goal.short-requires
short-requires g c =
    record { leads = text_leads c.args.self.now.spot c.in-Some.text c.requires c.in-Some.ensures.plain }
