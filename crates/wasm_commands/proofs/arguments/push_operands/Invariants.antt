use Rattle.std.proofs.Common.{◌≡◌, ◌++◌, length, map, string_bytes}
use Rattle.wasm_commands.specs.ArgumentLists.{operand}
use Rattle.wasm_commands.specs.Parsing.{read_of}
use Rattle.wasm_commands.proofs.arguments.push_operands.Given as goal

abbrev pub invariant-words : goal.invariant-words
invariant-words l =
    map read_of l.parsed.items ++ map operand (map string_bytes l.rest)
    ≡ map read_of l.initial.parsed.items ++ map operand (map string_bytes l.words)

abbrev pub decreases-words : goal.decreases-words
decreases-words l = length l.rest
