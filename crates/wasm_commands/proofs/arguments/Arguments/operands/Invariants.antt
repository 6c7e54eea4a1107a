use Rattle.std.proofs.Common.{◌≡◌, length, map, ◌++◌}
use Rattle.wasm_commands.specs.ArgumentLists.{operands_in}
use Rattle.wasm_commands.specs.Parsing.{reads_of, read_of, texts}
use Rattle.wasm_commands.proofs.arguments.Arguments.operands.Given as goal

abbrev pub invariant-arguments : goal.invariant-arguments
invariant-arguments l = operands_in (reads_of l.self) ≡ texts l.operands.items ++ operands_in (map read_of l.rest)

abbrev pub decreases-arguments : goal.decreases-arguments
decreases-arguments l = length l.rest
