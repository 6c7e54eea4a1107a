use Rattle.std.proofs.Common.{◌∷◌, ◌++◌, [], Some, ap, ◌∙◌}
use Rattle.wasm_show.specs.Lists.{if_deep, under}
use Rattle.wasm_show.specs.Seen.{an_item}
use Rattle.wasm_show.proofs.Walking.{sees_same, sees_then, sees_told}
use Rattle.wasm_show.proofs.lists.walk_item.Goals as goal

pub returns-then-IS_DEEP : goal.returns-then-IS_DEEP
returns-then-IS_DEEP g c =
    let x = c.args.found.now in
    let lists = g.I.Items.lists g.W.Walker.IS_DEEP in
    let one = an_item c.args.level (Some x.0) x.1 ∷ [] in
    sees_same g.W.Walker.saw g.W.Walker.why _ _ _ _
    (ap (λ l. one ++ l) (ap (λ n. lists n x.2) c.under.ensures ∙ ap (λ b. if_deep b (lists (under c.args.level) x.2)) c.if-IS_DEEP.ensures))
    (sees_then g.W.Walker.saw g.W.Walker.why one (lists c.under.result x.2) _ _ _
    (sees_told g.W.Walker.saw g.W.Walker.why one _ _ c.take_item.ensures) c.walk_lists.ensures)
