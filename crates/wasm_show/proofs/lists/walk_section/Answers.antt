use Rattle.std.proofs.Common.{sym, ap, ◌∙◌}
use Rattle.wasm_base.specs.Section.{Section, all_items}
use Rattle.wasm_show.specs.Lists.{left_seen}
use Rattle.wasm_show.proofs.lists.walk_section.Goals as goal

pub returns : goal.returns
returns g c reading agrees =
    let copy = rw c.unwrap.ensures at c.clone.ensures.cases in
    let begins = c.into_iter_with_offsets.ensures.items ∙ ap (λ (s : Section). all_items s) copy in
    c.walk_items.ensures _ (reading, agrees, sym (ap (left_seen reading tt) begins))
