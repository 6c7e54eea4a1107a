use Rattle.wasm_commands.proofs.commands.run_command.Goals.{in-Strip, in-Extract}
use Rattle.wasm_commands.proofs.commands.run_command.Goals as goal

pub returns : goal.returns
returns g c = elim c.match-verb.branch [
  | in-Strip w ↦ rw (w.in-Strip.is, w.ended-is, w.runner-is) w.strip-ended.ensures
  | in-Extract w ↦ rw (w.in-Extract.is, w.ended-is, w.runner-is) w.extract-ended.ensures
]
