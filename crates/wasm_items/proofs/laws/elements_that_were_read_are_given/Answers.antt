use Rattle.wasm_items.proofs.Announced.{element_given}
use Rattle.wasm_items.proofs.laws.elements_that_were_read_are_given.Goals as goal

pub returns : goal.returns
returns c before after element read = element_given before after element read
