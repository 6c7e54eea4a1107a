use Rattle.wasm_output.proofs.Saying.{none_in_digits}
use Rattle.wasm_output.proofs.escapes.hexadecimal_digits.Goals as goal

pub returns-clause-one_line : goal.returns-clause-one_line
returns-clause-one_line c = none_in_digits c.from.result c.from-2.result
