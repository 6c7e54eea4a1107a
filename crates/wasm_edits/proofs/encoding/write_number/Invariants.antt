use Rattle.wasm_edits.proofs.Common.{◌≡◌, ◌+◌, ◌<◌, ◌^◌, ◌++◌, drop, length, take}
use Rattle.wasm_edits.specs.Encoded.{encoded}
use Rattle.wasm_edits.proofs.encoding.write_number.Given as goal

abbrev pub invariant-septets : goal.invariant-septets
invariant-septets l = record {
  small : l.rest < 2 ^ 32;
  whole : take l.end l.bytes ++ encoded l.rest ≡ take l.at l.initial.bytes ++ encoded l.fn.number;
  size : l.end + length (encoded l.rest) ≡ l.at + length (encoded l.fn.number);
  rest : drop l.end l.bytes ≡ drop l.end l.initial.bytes;
  len : length l.bytes ≡ length l.initial.bytes;
}

abbrev pub decreases-septets : goal.decreases-septets
decreases-septets l = l.rest
