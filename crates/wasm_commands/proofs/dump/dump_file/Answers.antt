use Rattle.std.proofs.Common.{inl}
use Rattle.wasm_commands.proofs.dump.dump_file.Goals as goal

pub returns-in-Ok : goal.returns-in-Ok
returns-in-Ok g c = inl (c.in-Ok.begun, c.begin.new.self, c.in-Ok.ensures, c.dump_input.ensures)
