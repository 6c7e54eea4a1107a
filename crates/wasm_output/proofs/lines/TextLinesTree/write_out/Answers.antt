use Rattle.wasm_output.proofs.Writing.{puts_all}
use Rattle.wasm_output.proofs.lines.TextLinesTree.write_out.Goals as goal

pub returns-clause-adds : goal.returns-clause-adds
returns-clause-adds g c o i = puts_all o _ _ (c.write_out.ensures.puts _) (c.rows_to_end.ensures.adds o i)
