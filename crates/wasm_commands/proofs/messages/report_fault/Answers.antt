use Rattle.wasm_commands.proofs.messages.report_fault.Goals as goal

pub returns-in-Some-clause-says : goal.returns-in-Some-clause-says
returns-in-Some-clause-says g c = rw (← c.number.ensures, c.in-Some.is) (rw (
  c.write_offset-end.ensures.written,
  c.offset.ensures,
  c.as_bytes-message.ensures.value,
  c.message.ensures,
  c.shown_name.ensures,
) at c.say_number.ensures)

pub returns-in-None-clause-says : goal.returns-in-None-clause-says
returns-in-None-clause-says g c = rw (← c.number.ensures, c.in-None.is) (rw (
  c.write_offset-end.ensures.written,
  c.offset.ensures,
  c.as_bytes-message.ensures.value,
  c.message.ensures,
  c.shown_name-in-None.ensures,
) at c.say_fault.ensures)
