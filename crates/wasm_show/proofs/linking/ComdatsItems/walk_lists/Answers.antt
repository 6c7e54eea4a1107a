use Rattle.wasm_custom.specs.Linking.{comdat_symbol_at}
use Rattle.wasm_show.specs.Lists.{never_lists, plainly, unnumbered}
use Rattle.wasm_show.proofs.Listing.{readings_agree}
use Rattle.wasm_show.proofs.linking.ComdatsItems.walk_lists.Goals as goal

pub returns : goal.returns
returns g c =
    let deep = g.W.Walker.IS_DEEP in
    c.walk_section.ensures (plainly deep c.args.level comdat_symbol_at)
    (readings_agree unnumbered (never_lists deep) deep c.args.level _ comdat_symbol_at)
