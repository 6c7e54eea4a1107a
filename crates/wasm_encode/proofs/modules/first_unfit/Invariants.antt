use Rattle.std.proofs.Common.{◌≡◌, All, take}
use Rattle.wasm_encode.proofs.modules.first_unfit.Given as goal

abbrev pub invariant-items : goal.invariant-items
invariant-items g l = record {
  index : l.index ≡ l.item-index;
  fit : All g.T.Encode.is_encodable (take l.item-index l.items);
}
