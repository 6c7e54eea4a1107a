use Rattle.std.proofs.Common.{◌≡◌, length, map}
use Rattle.wasm_commands.specs.RewriteCommands.{is_asked_again, is_input, parts_of}
use Rattle.wasm_commands.proofs.add.reads_input_twice.Given as goal

abbrev pub invariant-additions : goal.invariant-additions
invariant-additions l = is_asked_again (is_input l.fn.file) (map parts_of l.fn.additions)
    ≡ is_asked_again l.is_asked (map parts_of l.rest)

abbrev pub decreases-additions : goal.decreases-additions
decreases-additions l = length l.rest
