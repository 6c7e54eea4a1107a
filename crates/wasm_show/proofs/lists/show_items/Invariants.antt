use Rattle.wasm_output.specs.Tree.{Adds}
use Rattle.wasm_show.proofs.lists.show_items.Given as goal

abbrev pub invariant-items : goal.invariant-items
invariant-items g l = Adds (g.O.Tree.writing l.initial.out) (g.O.Tree.writing l.out)

abbrev pub decreases-items : goal.decreases-items
decreases-items g l = g.I.Items.most l.items
