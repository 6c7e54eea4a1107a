use Rattle.wasm_base.proofs.OneOutcome.{runs_give_the_same, runs_give_equal}
use Rattle.wasm_base.proofs.laws.a_cloned_iterator_gives_the_same_items.Goals as goal

pub returns-clause-same : goal.returns-clause-same
returns-clause-same g c = runs_give_the_same g.T.FromReader.meaning

pub returns-clause-equal : goal.returns-clause-equal
returns-clause-equal g c = runs_give_equal g.T.FromReader.meaning
