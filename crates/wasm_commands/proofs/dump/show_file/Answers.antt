use Rattle.std.proofs.Common.{inl}
use Rattle.wasm_commands.proofs.dump.show_file.Goals as goal

pub returns-in-Ok : goal.returns-in-Ok
returns-in-Ok g c = inl (tt, c.head.new.self, rw c.in-Ok.is at c.head.ensures, c.show_all.ensures)
