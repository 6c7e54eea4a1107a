use Rattle.std.proofs.Common.{◌≡◌, length}
use Rattle.wasm_commands.specs.Parsing.{texts}
use Rattle.wasm_commands.specs.RewriteCommands.{no_setting}
use Rattle.wasm_commands.proofs.producers.parse_settings.Given as goal

abbrev pub invariant-words : goal.invariant-words
invariant-words l = no_setting (texts l.fn.words) ≡ no_setting (texts l.rest)

abbrev pub decreases-words : goal.decreases-words
decreases-words l = length l.rest
