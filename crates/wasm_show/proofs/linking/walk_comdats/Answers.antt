use Rattle.std.proofs.Common.{sym, ap, ◌∙◌}
use Rattle.wasm_base.specs.Section.{Section, all_items}
use Rattle.wasm_custom.specs.Linking.{comdat_at}
use Rattle.wasm_show.specs.Lists.{left_seen, comdat_seen, reading_by, unnumbered}
use Rattle.wasm_show.proofs.linking.walk_comdats.Goals as goal

pub returns : goal.returns
returns g c =
    let deep = g.W.Walker.IS_DEEP in
    let copy = rw c.unwrap.ensures at c.clone.ensures.cases in
    let begins = c.into_iter_with_offsets-comdats.ensures.items ∙ ap (λ (s : Section). all_items s) copy in
    c.walk_items.ensures _ (sym (ap (left_seen (reading_by unnumbered (comdat_seen deep) deep c.args.level comdat_at) tt) begins))
