use Rattle.wasm_items.specs.declared.imports.Import.{Import}
use Rattle.wasm_show.specs.Lists.{OwesList, found_seen, never_lists}
use Rattle.wasm_show.proofs.Listing.{after_import, passes_on}
use Rattle.wasm_show.proofs.lists.IntoImportsWithOffsetsItems.next_item.Goals as goal

pub returns-clause-owed : goal.returns-clause-owed
returns-clause-owed c deep level = passes_on (OwesList deep level) (found_seen (never_lists {T = Import} deep) deep level) c.args.self.now
    c.next.new.self
    _ _ c.without_number.ensures (after_import deep level c.args.self.now c.next.new.self c.next.result c.next.ensures.steps)
