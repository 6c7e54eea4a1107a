use Rattle.wasm_commands.proofs.messages.stop_for_memory.Goals as goal

pub returns-clause-says : goal.returns-clause-says
returns-clause-says g c = rw c.as_slice.ensures at c.say.ensures
