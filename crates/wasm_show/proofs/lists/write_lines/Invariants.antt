use Rattle.wasm_output.specs.Tree.{Adds}
use Rattle.wasm_show.proofs.lists.write_lines.Given as goal

abbrev pub invariant-loop-item : goal.invariant-loop-item
invariant-loop-item g l = Adds (g.O.Tree.writing l.initial.out) (g.O.Tree.writing l.out)
