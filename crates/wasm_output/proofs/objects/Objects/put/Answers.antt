use Rattle.wasm_output.proofs.Common.{refl}
use Rattle.wasm_output.proofs.Writing.{puts_in_object}
use Rattle.wasm_output.proofs.objects.Objects.put.Goals as goal

pub returns-clause-adds : goal.returns-clause-adds
returns-clause-adds g c o i = puts_in_object o _ _ _ _ refl c.requires.leads (c.put.ensures _) i
