use Rattle.std.proofs.Common.{◌≡◌, ◌++◌, length, map, string_bytes}
use Rattle.std.specs.Vec.Iter.{into_iter_items}
use Rattle.wasm_console.proofs.arguments.stored.Given as goal

abbrev pub invariant-words : goal.invariant-words
invariant-words l =
    map string_bytes l.words.items ++ map string_bytes (into_iter_items l.arguments)
    ≡ map string_bytes (into_iter_items l.initial.arguments)

abbrev pub decreases-words : goal.decreases-words
decreases-words l = length (map string_bytes (into_iter_items l.arguments))
