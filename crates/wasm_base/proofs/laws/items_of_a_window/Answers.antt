use Rattle.wasm_base.specs.Section.{AtItsOffset}
use Rattle.wasm_base.proofs.Runs.{runs_give_items}
use Rattle.wasm_base.proofs.laws.items_of_a_window.Goals as goal

pub returns-clause-items : goal.returns-clause-items
returns-clause-items g c = runs_give_items g.T.FromReader.meaning

pub returns-clause-with_offsets : goal.returns-clause-with_offsets
returns-clause-with_offsets g c = runs_give_items (AtItsOffset g.T.FromReader.meaning)
