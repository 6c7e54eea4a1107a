use Rattle.wasm_custom.proofs.AnnouncedHints.{hints_given}
use Rattle.wasm_custom.proofs.laws.hints_that_were_read_are_given.Goals as goal

pub returns : goal.returns
returns c before after function read = hints_given before after function read
