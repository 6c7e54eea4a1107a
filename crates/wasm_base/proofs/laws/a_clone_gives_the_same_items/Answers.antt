use Rattle.std.proofs.Common.{sym, ap, ◌∙◌}
use Rattle.wasm_base.specs.Section.{all_items}
use Rattle.wasm_base.proofs.OneOutcome.{runs_give_the_same, runs_give_equal}
use Rattle.wasm_base.proofs.laws.a_clone_gives_the_same_items.Goals as goal

pub returns-clause-same : goal.returns-clause-same
returns-clause-same g c one section copy same s t s_is t_is = runs_give_the_same g.T.FromReader.meaning one s t
    (t_is.0 ∙ ap all_items same ∙ sym s_is.0)

pub returns-clause-equal : goal.returns-clause-equal
returns-clause-equal g c det section copy same s t s_is t_is = runs_give_equal g.T.FromReader.meaning det s t
    (t_is.0 ∙ ap all_items same ∙ sym s_is.0)
