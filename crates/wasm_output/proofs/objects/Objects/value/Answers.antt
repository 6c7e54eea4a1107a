use Rattle.wasm_output.proofs.Json.{signed_leads}
use Rattle.wasm_output.proofs.objects.Objects.value.Goals as goal

pub short-requires : goal.short-requires
short-requires g c =
    let n = c.signed_of.result in
    record { leads = rw c.requires (signed_leads n.is_negative n.digits c.signed_of.ensures.digits) }
