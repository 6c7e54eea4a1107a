use Rattle.std.proofs.Common.{◌≡◌, ◌+◌, ◌≤◌, drop, length}
use Rattle.wasm_commands.specs.Colors.{without_colors, without_from}
use Rattle.wasm_commands.proofs.dump.plain.count_plain.Given as goal

abbrev pub invariant-loop-byte : goal.invariant-loop-byte
invariant-loop-byte l = record {
  few : l.count ≤ l.byte-index;
  counted : l.count + length (without_from l.at (drop l.byte-index l.bytes)) ≡ length (without_colors l.bytes);
}
