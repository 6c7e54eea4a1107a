use Rattle.wasm_base.proofs.Runs.{runs_give_owned_items}
use Rattle.wasm_base.proofs.laws.owned_items_of_a_window.Goals as goal

pub returns : goal.returns
returns g c = runs_give_owned_items g.T.FromReaderIn.meaning
