use Rattle.wasm_commands.proofs.messages.complain_of_value.Goals as goal

pub returns : goal.returns
returns g c = record {
  says = rw (
    c.command_words.ensures,
    c.as_slice.ensures,
    c.as_bytes.ensures.value,
    c.as_bytes-2.ensures.value,
    c.values_of.ensures,
  ) at c.say.ensures;
}
