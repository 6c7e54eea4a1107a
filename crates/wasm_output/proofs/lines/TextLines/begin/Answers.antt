use Rattle.wasm_output.proofs.Common.{refl}
use Rattle.wasm_output.proofs.Writing.{begins}
use Rattle.wasm_output.proofs.lines.TextLines.begin.Goals as goal

pub returns-clause-adds : goal.returns-clause-adds
returns-clause-adds g c o i = begins _ o _ _ refl c.if-self.false (c.put.ensures _) i
