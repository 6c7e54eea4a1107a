use Rattle.std.proofs.Common.{◌≡◌, length, map}
use Rattle.wasm_commands.specs.ArgumentLists.{has_option}
use Rattle.wasm_commands.specs.Parsing.{reads_of, read_of}
use Rattle.wasm_commands.proofs.arguments.Arguments.has.Given as goal

abbrev pub invariant-arguments : goal.invariant-arguments
invariant-arguments l = has_option l.flag (reads_of l.self) ≡ has_option l.flag (map read_of l.rest)

abbrev pub decreases-arguments : goal.decreases-arguments
decreases-arguments l = length l.rest
