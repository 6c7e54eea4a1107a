use Rattle.std.proofs.Common.{◌≡◌, length, map, string_bytes}
use Rattle.wasm_commands.specs.ArgumentLists.{arguments_of}
use Rattle.wasm_commands.proofs.Parsing.{after_some}
use Rattle.wasm_commands.specs.Parsing.{read_of}
use Rattle.wasm_commands.proofs.arguments.parse.Given as goal

abbrev pub invariant-words : goal.invariant-words
invariant-words l =
    arguments_of l.verb (map string_bytes l.words)
    ≡ after_some (map read_of l.parsed.items) (arguments_of l.verb (map string_bytes l.rest))

abbrev pub decreases-words : goal.decreases-words
decreases-words l = length l.rest
