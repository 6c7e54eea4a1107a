use Rattle.wasm_show.specs.Lists.{names_seen}
use Rattle.wasm_show.proofs.Listing.{of_copy}
use Rattle.wasm_show.proofs.lists.IndirectNameMapItems.walk_lists.Goals as goal

pub returns : goal.returns
returns g c = c.walk_items.ensures _ (of_copy (names_seen g.W.Walker.IS_DEEP c.args.level) _ _
    (rw c.unwrap.ensures at c.clone.ensures.cases))
