use Rattle.wasm_commands.proofs.commands.run_given.Goals as goal

pub returns-in-NotUtf8 : goal.returns-in-NotUtf8
returns-in-NotUtf8 g c = rw c.in-NotUtf8.is c.refuse.ensures
