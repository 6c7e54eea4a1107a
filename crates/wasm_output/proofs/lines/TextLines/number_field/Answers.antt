use Rattle.wasm_output.proofs.Common.{arith}
use Rattle.wasm_output.proofs.Saying.{none_in_number_field}
use Rattle.wasm_output.proofs.lines.TextLines.number_field.Goals as goal

pub short-requires : goal.short-requires
short-requires g c = grind (arith, none_in_number_field)
