use Rattle.wasm_output.proofs.Common.{arith}
use Rattle.wasm_output.proofs.EscapedBytes.{is_marked}
use Rattle.wasm_output.proofs.escapes.is_escaped.Goals as goal

pub returns : goal.returns
returns c = rw c.from.ensures (is_marked c.args.byte (omega arith))
