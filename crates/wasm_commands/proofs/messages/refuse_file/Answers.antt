use Rattle.wasm_commands.proofs.messages.refuse_file.Goals as goal

pub returns-clause-says : goal.returns-clause-says
returns-clause-says g c = rw c.words.ensures at c.say_why.ensures
