use Rattle.std.proofs.Common.{Ok, Err, None, ap}
use Rattle.wasm_commands.proofs.runner.Runner.extract_from.Goals as goal

pub returns-in-Ok-None : goal.returns-in-Ok-None
returns-in-Ok-None g c = record {
  found = Ok None;
  finds = rw (c.in-Ok-None.is, c.in-Ok-None.field-0-is) at c.find.ensures;
  ends = record { answers = ap Err c.miss.ensures.status; tells = c.miss.ensures.tells };
}
