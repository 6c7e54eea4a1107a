use Rattle.wasm_commands.proofs.messages.say_number.Goals as goal

pub returns : goal.returns
returns g c = rw (c.write_number-end.ensures.written, c.write_word-start.ensures.written) at c.say_fault.ensures
