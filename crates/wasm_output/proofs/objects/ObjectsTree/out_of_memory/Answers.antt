use Rattle.wasm_output.proofs.Writing.{stops_here}
use Rattle.wasm_output.proofs.objects.ObjectsTree.out_of_memory.Goals as goal

pub returns-clause-adds : goal.returns-clause-adds
returns-clause-adds g c o i = stops_here o _ _ _ c.out_of_memory.ensures i
