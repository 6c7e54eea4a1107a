use Rattle.std.proofs.Common.{ap, ◌∙◌}
use Rattle.wasm_base.specs.Window.{place}
use Rattle.wasm_show.specs.Lists.{with_offset}
use Rattle.wasm_show.proofs.Listing.{after_indirect}
use Rattle.wasm_show.proofs.lists.IndirectNameMapItems.next_item.Goals as goal

pub returns-clause-owed : goal.returns-clause-owed
returns-clause-owed c deep level =
    let offset = c.original_position-offset.ensures.offset ∙ ap (λ v. (place v.entries.reader).offset) c.self.view_is in
    after_indirect deep level c.args.self.now c.next.new.self _ _ (c.placed.ensures ∙ ap (λ o. with_offset o c.next.result) offset)
    c.next.ensures.steps
