use Rattle.wasm_output.proofs.Common.{refl}
use Rattle.wasm_output.proofs.Writing.{puts_first}
use Rattle.wasm_output.proofs.lines.TextLines.first.Goals as goal

pub returns : goal.returns
returns g c outline numbers e o i =
    puts_first _ o _ _ refl _ outline numbers e c.rows_to_cut.ensures.ended (c.put.ensures _) (c.rows_to_cut.ensures.adds o i)
