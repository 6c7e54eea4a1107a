use Rattle.std.proofs.Common.{ap}
use Rattle.wasm_base.specs.Section.{all_items}
use Rattle.wasm_base.proofs.OneOutcome.{runs_give_the_same_owned}
use Rattle.wasm_base.proofs.laws.a_clone_gives_the_same_owned_items.Goals as goal

pub returns : goal.returns
returns g c one section copy same = runs_give_the_same_owned g.T.FromReaderIn.meaning one (all_items section) (all_items copy)
    (ap all_items same)
