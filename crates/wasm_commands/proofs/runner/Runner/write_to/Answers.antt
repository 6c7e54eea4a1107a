use Rattle.wasm_commands.proofs.runner.Runner.write_to.Goals as goal

pub returns-in-None : goal.returns-in-None
returns-in-None g c = rw c.in-None.is c.write.ensures
