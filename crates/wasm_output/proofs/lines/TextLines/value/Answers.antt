use Rattle.wasm_output.proofs.Saying.{none_in_signed}
use Rattle.wasm_output.proofs.lines.TextLines.value.Goals as goal

pub short-requires : goal.short-requires
short-requires g c =
    let n = c.signed_of.result in
    record { one_line = none_in_signed n.is_negative n.digits c.signed_of.ensures.digits }
