use Rattle.wasm_show.proofs.Walking.{SoFar}
use Rattle.wasm_show.proofs.lists.walk_items.Given as goal

abbrev pub invariant-items : goal.invariant-items
invariant-items g l = SoFar g.W.Walker.saw g.W.Walker.why (g.I.Items.owes g.W.Walker.IS_DEEP l.fn.level) l.initial.items l.items
    l.initial.walker l.walker

abbrev pub decreases-items : goal.decreases-items
decreases-items g l = g.I.Items.most l.items
