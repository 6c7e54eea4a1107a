use Rattle.wasm_output.proofs.Common.{arith}
use Rattle.wasm_output.proofs.Saying.{none_in_decimal}
use Rattle.wasm_output.proofs.lines.TextLinesTree.digits.Goals as goal

pub short-requires : goal.short-requires
short-requires g c = record { one_line = none_in_decimal c.args.number (omega arith) }
