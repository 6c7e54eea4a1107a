use Rattle.std.proofs.Common.{◌≡◌, ◌+◌, ◌<◌, ◌^◌, ◌++◌, drop, length, take}
use Rattle.wasm_encode.specs.Numbers.{septets_of}
use Rattle.wasm_encode.proofs.number.write_septets.Given as goal

abbrev pub invariant-septets : goal.invariant-septets
invariant-septets l = record {
  small : l.rest < 2 ^ 64;
  whole : take l.end l.bytes ++ septets_of l.flips l.limit l.rest ≡ take l.at l.initial.bytes ++ septets_of l.flips l.limit l.fn.number;
  size : l.end + length (septets_of l.flips l.limit l.rest) ≡ l.at + length (septets_of l.flips l.limit l.fn.number);
  rest : drop l.end l.bytes ≡ drop l.end l.initial.bytes;
  len : length l.bytes ≡ length l.initial.bytes;
}

abbrev pub decreases-septets : goal.decreases-septets
decreases-septets l = l.rest
