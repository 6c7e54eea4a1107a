use Rattle.std.proofs.Common.{inl}
use Rattle.wasm_commands.proofs.runner.Runner.edit_file.Goals as goal

pub returns : goal.returns
returns g c = inl (c.in_ok-original.original, c.find.new.self, c.in_ok-original.ensures, c.edit_to.ensures)
