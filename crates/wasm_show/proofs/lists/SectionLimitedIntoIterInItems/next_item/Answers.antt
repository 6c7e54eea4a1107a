use Rattle.wasm_show.specs.Lists.{never_lists}
use Rattle.wasm_show.proofs.Listing.{after_owned}
use Rattle.wasm_show.proofs.lists.SectionLimitedIntoIterInItems.next_item.Goals as goal

pub returns-clause-owed : goal.returns-clause-owed
returns-clause-owed g c deep level = after_owned g.T.FromReaderIn.meaning never_lists deep level c.args.self.now c.next.new.self _ _
    (rw c.original_position-offset.ensures.offset at c.placed.ensures) c.next.ensures.steps
