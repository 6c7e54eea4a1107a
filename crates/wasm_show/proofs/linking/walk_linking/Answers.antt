use Rattle.wasm_show.proofs.Listing.{owes_linking}
use Rattle.wasm_show.proofs.linking.walk_linking.Goals as goal

pub returns : goal.returns
returns g c = c.walk_items.ensures _ (owes_linking g.W.Walker.IS_DEEP c.args.level _ _ c.subsections-subsections.ensures)
