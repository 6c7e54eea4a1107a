use Rattle.std.proofs.Common.{Err, ap}
use Rattle.wasm_commands.proofs.runner.Runner.replace.Goals as goal

pub returns-in-Err : goal.returns-in-Err
returns-in-Err g c = rw (← c.self.view_is) (
  c.replace.new.self,
  c.in-Err.cause,
  c.in-Err.ensures,
  record { answers = ap Err c.refuse.ensures.status; tells = c.refuse.ensures.tells },
)
