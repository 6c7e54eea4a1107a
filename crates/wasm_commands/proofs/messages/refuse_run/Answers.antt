use Rattle.wasm_commands.proofs.messages.refuse_run.Goals as goal

pub returns-in-Input-clause-says : goal.returns-in-Input-clause-says
returns-in-Input-clause-says g c = rw c.in-Input.is (rw c.shown_name.ensures at c.say_cause.ensures)

pub returns-in-Output-clause-says : goal.returns-in-Output-clause-says
returns-in-Output-clause-says g c = rw c.in-Output.is c.say_cause-in-Output.ensures

pub returns-in-Memory-clause-says : goal.returns-in-Memory-clause-says
returns-in-Memory-clause-says g c = rw c.in-Memory.is (rw c.as_slice.ensures at c.say.ensures)
