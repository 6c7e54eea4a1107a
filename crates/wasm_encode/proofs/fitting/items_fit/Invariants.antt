use Rattle.std.proofs.Common.{◌≡◌, ◌+◌, ◌<◌, All, length, take}
use Rattle.wasm_encode.specs.Sections.{items_bytes}
use Rattle.wasm_encode.proofs.fitting.items_fit.Given as goal

abbrev pub invariant-items : goal.invariant-items
invariant-items g l = record {
  each : All g.T.Encode.is_encodable (take l.item-index l.items);
  size : l.size ≡ l.before + length (items_bytes g.T.Encode.encoded (take l.item-index l.items));
  small : l.size < l.bound;
}
