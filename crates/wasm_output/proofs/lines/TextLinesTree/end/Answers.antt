use Rattle.wasm_output.proofs.Common.{refl}
use Rattle.wasm_output.proofs.Writing.{ends}
use Rattle.wasm_output.proofs.lines.TextLinesTree.end.Goals as goal

pub returns-clause-adds : goal.returns-clause-adds
returns-clause-adds g c o i = ends _ o _ _ refl c.if-not-self.false (c.put.ensures _) i
