use Rattle.std.proofs.Common.{◌≡◌, true, length, drop}
use Rattle.wasm_commands.specs.FirstNamed.{Sought}
use Rattle.wasm_commands.proofs.around.find_first.Given as goal

abbrev pub invariant-parts : goal.invariant-parts
invariant-parts l = record {
  sought : Sought l.fn.name l.fn.bytes l.cursor l.found;
  finished : l.cursor.is_finished ≡ true;
}

abbrev pub decreases-parts : goal.decreases-parts
decreases-parts l = length (drop l.cursor.mark l.fn.bytes)
