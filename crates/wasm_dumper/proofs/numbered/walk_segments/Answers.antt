use Rattle.std.proofs.Common.{sym, ap, ◌∙◌}
use Rattle.wasm_base.specs.Section.{Section, all_items}
use Rattle.wasm_dumper.specs.Walks.{element_reading}
use Rattle.wasm_show.specs.Lists.{left_seen}
use Rattle.wasm_dumper.proofs.numbered.walk_segments.Goals as goal

pub returns : goal.returns
returns g c =
    let copy = rw c.unwrap.ensures at c.clone.ensures.cases in
    let begins = c.into_iter_with_offsets-segments.ensures.items ∙ ap (λ (s : Section). all_items s) copy in
    c.walk_items.ensures _ (sym (ap (left_seen (element_reading g.W.Walker.IS_DEEP 1) 0) begins))
