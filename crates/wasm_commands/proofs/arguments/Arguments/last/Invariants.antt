use Rattle.std.proofs.Common.{◌≡◌, length, map, option_map, None}
use Rattle.wasm_commands.specs.ArgumentLists.{last_value}
use Rattle.wasm_commands.specs.Parsing.{reads_of, read_of, text_if_any}
use Rattle.wasm_commands.proofs.arguments.Arguments.last.Given as goal

abbrev pub invariant-arguments : goal.invariant-arguments
invariant-arguments l = last_value l.flag None (reads_of l.self)
    ≡ last_value l.flag (option_map text_if_any l.last) (map read_of l.rest)

abbrev pub decreases-arguments : goal.decreases-arguments
decreases-arguments l = length l.rest
