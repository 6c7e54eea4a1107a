use Rattle.std.proofs.Common.{Err, ap, inl}
use Rattle.wasm_commands.proofs.Editing.{not_all_fit}
use Rattle.wasm_commands.proofs.runner.Runner.write_added.Goals as goal

pub returns : goal.returns
returns g c = inl (
  not_all_fit c.args.edits.now c.all_fit.result c.all_fit.ensures c.if-all_fit.false,
  c.large_name.result.now,
  record { answers = ap Err c.complain.ensures.status; tells = c.complain.ensures.tells },
)
