use Rattle.std.proofs.Common.{refl}
use Rattle.wasm_commands.proofs.dump.dump_input.Goals as goal

pub returns : goal.returns
returns g c = rw c.into_parts-system.ensures (record {
  rest = c.dump_as-how.new.input;
  how = c.dump_as-how.result.0;
  middle = c.new-runner.result;
  dumps = rw c.new-runner.ensures c.dump_as-how.ensures;
  only = rw c.new-runner.ensures (record { system = refl; said = refl });
  ends = c.end_dump.ensures;
})
