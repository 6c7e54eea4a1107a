use Rattle.std.proofs.Common.{ap, sym, inr}
use Rattle.wasm_custom.specs.TargetFeatures.{target_feature_at}
use Rattle.wasm_show.specs.Lists.{counted_features_seen, never_lists, plainly, unnumbered}
use Rattle.wasm_show.proofs.Listing.{readings_agree}
use Rattle.wasm_show.proofs.Walking.{fault_or_stop, sees_same}
use Rattle.wasm_show.proofs.custom.walk_features.Goals as goal

pub returns-in-Ok : goal.returns-in-Ok
returns-in-Ok g c =
    let deep = g.W.Walker.IS_DEEP in
    sees_same g.W.Walker.saw g.W.Walker.why _ _ _ _
    (sym (ap (counted_features_seen deep c.args.level) (rw c.data_reader.ensures at c.in-Ok.ensures.whole)))
    (c.walk_section.ensures (plainly deep c.args.level target_feature_at)
    (readings_agree unnumbered (never_lists deep) deep c.args.level _ target_feature_at))

pub returns-in-Err : goal.returns-in-Err
returns-in-Err g c = fault_or_stop g.W.Walker.saw g.W.Walker.why _ c.in-Err.error _ _
    (inr (ap (counted_features_seen g.W.Walker.IS_DEEP c.args.level) (rw c.data_reader.ensures at c.in-Err.ensures.whole)))
    c.take_fault.ensures
