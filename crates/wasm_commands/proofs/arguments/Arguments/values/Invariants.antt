use Rattle.std.proofs.Common.{◌≡◌, length, map, ◌++◌}
use Rattle.wasm_commands.specs.ArgumentLists.{values_in}
use Rattle.wasm_commands.specs.Parsing.{reads_of, read_of, texts}
use Rattle.wasm_commands.proofs.arguments.Arguments.values.Given as goal

abbrev pub invariant-arguments : goal.invariant-arguments
invariant-arguments l = values_in l.flag (reads_of l.self) ≡ texts l.values.items ++ values_in l.flag (map read_of l.rest)

abbrev pub decreases-arguments : goal.decreases-arguments
decreases-arguments l = length l.rest
