use Rattle.std.proofs.Common.{◌≡◌, ◌++◌, length, map}
use Rattle.wasm_commands.specs.Parsing.{texts}
use Rattle.wasm_commands.specs.RewriteCommands.{added_in, no_addition, parts_of}
use Rattle.wasm_commands.proofs.add.parse_additions.Given as goal

abbrev pub invariant-words : goal.invariant-words
invariant-words l = record {
  refused : no_addition (texts l.fn.words) ≡ no_addition (texts l.rest);
  parsed : map added_in (texts l.fn.words) ≡ map parts_of l.additions.items ++ map added_in (texts l.rest);
}

abbrev pub decreases-words : goal.decreases-words
decreases-words l = length l.rest
