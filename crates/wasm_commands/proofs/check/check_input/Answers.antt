use Rattle.std.proofs.Common.{refl}
use Rattle.wasm_commands.proofs.check.check_input.Goals as goal

pub returns : goal.returns
returns g c = rw c.into_parts-system.ensures (record {
  rest = c.check_as-found.new.input;
  found = c.check_as-found.result.0;
  middle = c.new-runner.result;
  checks = rw (c.new-runner.ensures, ← c.requires) c.check_as-found.ensures.checks;
  forwards = rw c.new-runner.ensures c.check_as-found.ensures.forwards;
  only = rw c.new-runner.ensures (record { system = refl; said = refl });
  ends = c.end_check.ensures;
})
