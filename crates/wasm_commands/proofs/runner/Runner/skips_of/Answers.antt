use Rattle.std.proofs.Common.{Err, ap}
use Rattle.wasm_commands.proofs.runner.Runner.skips_of.Goals as goal

pub returns-in-None : goal.returns-in-None
returns-in-None g c = (
  rw c.last-index.ensures at c.in-None.ensures,
  record {
    answers = ap Err c.complain.ensures.status;
    tells = rw (c.word_of.ensures, c.last-index.ensures) at c.complain.ensures.tells;
  },
)
