use Rattle.std.proofs.Common.{inl}
use Rattle.wasm_commands.proofs.runner.Runner.names_of.Goals as goal

pub returns : goal.returns
returns g c = inl (c.in_ok-input.input, c.open.new.self, c.in_ok-input.ensures, c.names_in.ensures)
