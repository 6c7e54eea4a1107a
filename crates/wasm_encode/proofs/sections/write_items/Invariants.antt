use Rattle.std.proofs.Common.{◌≡◌, ◌+◌, ◌++◌, drop, length, take}
use Rattle.wasm_encode.specs.Sections.{items_bytes}
use Rattle.wasm_encode.proofs.sections.write_items.Given as goal

abbrev pub invariant-items : goal.invariant-items
invariant-items g l = record {
  whole : take l.end l.bytes ≡ take l.at l.fn.bytes ++ items_bytes g.T.Encode.encoded (take l.item-index l.items);
  size : l.end ≡ l.at + length (items_bytes g.T.Encode.encoded (take l.item-index l.items));
  rest : drop l.end l.bytes ≡ drop l.end l.fn.bytes;
  len : length l.bytes ≡ length l.fn.bytes;
}
