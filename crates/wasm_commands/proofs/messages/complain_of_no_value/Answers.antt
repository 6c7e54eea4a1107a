use Rattle.wasm_commands.proofs.messages.complain_of_no_value.Goals as goal

pub returns : goal.returns
returns g c = record {
  says = rw (
    c.command_words-words.ensures,
    c.as_slice.ensures,
    c.as_bytes.ensures.value,
    c.values_of.ensures,
  ) at c.say.ensures;
}
