use Rattle.wasm_base.proofs.OneOutcome.{offsets_give_the_same, offsets_give_equal}
use Rattle.wasm_base.proofs.laws.both_iterators_give_the_same_items.Goals as goal

pub returns-clause-same : goal.returns-clause-same
returns-clause-same g c = offsets_give_the_same g.T.FromReader.meaning

pub returns-clause-equal : goal.returns-clause-equal
returns-clause-equal g c = offsets_give_equal g.T.FromReader.meaning
