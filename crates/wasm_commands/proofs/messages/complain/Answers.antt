use Rattle.wasm_commands.proofs.messages.complain.Goals as goal

pub returns-in-Excluded-clause-says : goal.returns-in-Excluded-clause-says
returns-in-Excluded-clause-says g c =
    rw c.in-Excluded.is
    (rw (c.command_words.ensures, c.as_slice.ensures, c.as_bytes.ensures.value, c.as_bytes-in-Excluded.ensures.value) at c.say.ensures)

pub returns-in-WrongValue-clause-says : goal.returns-in-WrongValue-clause-says
returns-in-WrongValue-clause-says g c = rw c.in-WrongValue.is c.complain_of_value.ensures.says

pub returns-in-Extra-clause-says : goal.returns-in-Extra-clause-says
returns-in-Extra-clause-says g c = rw c.in-Extra.is c.complain_of.ensures.says

pub returns-in-UnknownCommand-clause-says : goal.returns-in-UnknownCommand-clause-says
returns-in-UnknownCommand-clause-says g c =
    rw c.in-UnknownCommand.is
    (rw (c.as_slice-in-UnknownCommand.ensures, c.as_bytes-in-UnknownCommand.ensures.value) at c.say-in-UnknownCommand.ensures)

pub returns-in-UnknownOption-clause-says : goal.returns-in-UnknownOption-clause-says
returns-in-UnknownOption-clause-says g c =
    rw c.in-UnknownOption.is
    (rw (c.as_slice-in-UnknownOption.ensures, c.as_bytes-in-UnknownOption.ensures.value) at c.say-in-UnknownOption.ensures)

pub returns-in-NoCommand-clause-says : goal.returns-in-NoCommand-clause-says
returns-in-NoCommand-clause-says g c = rw c.in-NoCommand.is (rw c.as_slice-in-NoCommand.ensures at c.say-in-NoCommand.ensures)

pub returns-in-NamesOf-clause-says : goal.returns-in-NamesOf-clause-says
returns-in-NamesOf-clause-says g c =
    rw c.in-NamesOf.is
    (rw (c.as_slice-in-NamesOf.ensures, c.as_bytes-in-NamesOf.ensures.value, c.shown_name.ensures) at c.say-in-NamesOf.ensures)

pub returns-in-InputTwice-clause-says : goal.returns-in-InputTwice-clause-says
returns-in-InputTwice-clause-says g c = rw c.in-InputTwice.is c.complain_of-in-InputTwice.ensures.says

pub returns-in-NotUtf8-clause-says : goal.returns-in-NotUtf8-clause-says
returns-in-NotUtf8-clause-says g c = rw c.in-NotUtf8.is (rw c.as_slice-in-NotUtf8.ensures at c.say-in-NotUtf8.ensures)

pub returns-in-NoData-clause-says : goal.returns-in-NoData-clause-says
returns-in-NoData-clause-says g c = rw c.in-NoData.is c.complain_of-in-NoData.ensures.says

pub returns-in-TooLarge-clause-says : goal.returns-in-TooLarge-clause-says
returns-in-TooLarge-clause-says g c =
    rw c.in-TooLarge.is
    (rw (c.command_words-in-TooLarge.ensures, c.as_slice-in-TooLarge.ensures, c.as_bytes-in-TooLarge.ensures.value)
    at c.say-in-TooLarge.ensures)

pub returns-in-Terminal-clause-says : goal.returns-in-Terminal-clause-says
returns-in-Terminal-clause-says g c = rw c.in-Terminal.is (rw c.as_slice-in-Terminal.ensures at c.say-in-Terminal.ensures)
