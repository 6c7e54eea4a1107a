use Rattle.wasm_show.specs.Lists.{OwesBy, found_seen, never_lists, unnumbered}
use Rattle.wasm_show.proofs.Listing.{after_item, passes_on}
use Rattle.wasm_show.proofs.lists.SectionLimitedIntoIterWithOffsetsItems.next_item.Goals as goal

pub returns-clause-owed : goal.returns-clause-owed
returns-clause-owed g c deep level =
    passes_on (OwesBy g.T.FromReader.meaning unnumbered never_lists deep level tt) (found_seen (never_lists deep) deep level)
    c.args.self.now c.next.new.self _ _ c.without_number.ensures
    (after_item g.T.FromReader.meaning never_lists deep level c.args.self.now c.next.new.self c.next.result c.next.ensures.steps)
