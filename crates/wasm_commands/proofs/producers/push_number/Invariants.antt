use Rattle.std.proofs.Common.{◌≡◌, ◌<◌, ◌^◌, ◌++◌}
use Rattle.wasm_edits.specs.Encoded.{encoded}
use Rattle.wasm_commands.proofs.producers.push_number.Given as goal

abbrev pub invariant-septets : goal.invariant-septets
invariant-septets l = record {
  small : l.fn.number < 2 ^ 32 → l.rest < 2 ^ 32;
  whole : l.fn.number < 2 ^ 32 → l.bytes.items ++ encoded l.rest ≡ l.initial.bytes.items ++ encoded l.fn.number;
}

abbrev pub decreases-septets : goal.decreases-septets
decreases-septets l = l.rest
