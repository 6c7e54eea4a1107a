use Rattle.wasm_commands.proofs.messages.warn_of_missing.Goals as goal

pub returns : goal.returns
returns g c = record {
  says = rw (
    c.command_words.ensures,
    c.as_slice.ensures,
    c.as_bytes.ensures.value,
    c.shown_name.ensures,
    c.as_bytes-2.ensures.value,
    c.hint_for.ensures,
  ) at c.say.ensures;
}
