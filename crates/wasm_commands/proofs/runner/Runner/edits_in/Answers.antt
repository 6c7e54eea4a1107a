use Rattle.std.proofs.Common.{inl}
use Rattle.wasm_commands.proofs.Steps.{makes}
use Rattle.wasm_commands.proofs.runner.Runner.edits_in.Goals as goal

pub returns : goal.returns
returns g c = inl (
  c.in_ok-found.found,
  c.allocated.new.self,
  makes _ c.edits_to.result _ _ _ c.in_ok-found.ensures c.edits_to.ensures,
  c.sound.ensures,
)
