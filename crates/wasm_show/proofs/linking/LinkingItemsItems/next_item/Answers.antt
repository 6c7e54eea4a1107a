use Rattle.wasm_show.proofs.Listing.{after_linking}
use Rattle.wasm_show.proofs.linking.LinkingItemsItems.next_item.Goals as goal

pub returns-clause-owed : goal.returns-clause-owed
returns-clause-owed c deep level = after_linking (λ l. l.subsections) deep level c.args.self.now
    (record { subsections = c.next.new.self }) _ _ _ (rw c.original_position-offset.ensures at c.placed.ensures) c.next.ensures.steps
