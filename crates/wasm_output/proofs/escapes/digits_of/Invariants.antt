use Rattle.wasm_output.proofs.Common.{◌≡◌, false, length, take, ◌*◌, flat_map, hexadecimal, has_line_feed}
use Rattle.wasm_output.proofs.escapes.digits_of.Given as goal

abbrev pub invariant-loop-byte : goal.invariant-loop-byte
invariant-loop-byte l = record {
  digits : l.digits ≡ flat_map hexadecimal (take l.byte-index l.bytes);
  short : length l.digits ≡ 2 * l.byte-index;
  one_line : has_line_feed l.digits ≡ false;
}
