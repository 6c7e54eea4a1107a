use Rattle.wasm_show.specs.Lists.{never_lists}
use Rattle.wasm_show.proofs.Listing.{after_any_subsection}
use Rattle.wasm_show.proofs.lists.SubsectionsItems.next_item.Goals as goal

pub returns-clause-owed : goal.returns-clause-owed
returns-clause-owed g c deep level = after_any_subsection g.T.Subsection.meaning _ never_lists deep level c.args.self.now c.next.new.self
    _ _ (rw c.original_position-offset.ensures at c.placed.ensures) c.next.ensures.steps
