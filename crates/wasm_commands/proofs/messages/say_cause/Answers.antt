use Rattle.wasm_commands.proofs.messages.say_cause.Goals as goal

pub returns : goal.returns
returns g c = rw c.words_if_any-words.ensures at c.say_why.ensures
