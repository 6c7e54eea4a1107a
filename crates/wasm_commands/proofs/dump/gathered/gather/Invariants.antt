use Rattle.std.proofs.Common.{◌≡◌, ◌+◌}
use Rattle.wasm_commands.proofs.Coloring.{Gathers}
use Rattle.wasm_commands.proofs.dump.gathered.gather.Given as goal

abbrev pub invariant-loop-byte : goal.invariant-loop-byte
invariant-loop-byte l = record {
  gathers : Gathers l.first l.byte-index l.later l.run.text;
  counts : l.run.count ≡ l.byte-index + 1;
}
