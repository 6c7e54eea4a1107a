use Rattle.wasm_commands.proofs.messages.say_fault.Goals as goal

pub returns : goal.returns
returns g c = rw (c.as_slice.ensures, c.as_bytes.ensures.value) at c.say.ensures
