use Rattle.wasm_dumper.proofs.Common.{◌∷◌, []}
use Rattle.wasm_show.proofs.ForCallers.{sees_then, sees_told}
use Rattle.wasm_dumper.proofs.stream.walk_payload.Goals as goal

pub returns : goal.returns
returns g c begins = sees_then g.W.Walker.saw g.W.Walker.why (_ ∷ []) _ _ _ _
    (rw c.within.ensures at (sees_told g.W.Walker.saw g.W.Walker.why _ _ _ c.enter.ensures)) (c.walk_items_of.ensures begins)
