use Rattle.wasm_base.proofs.SubsectionRuns.{runs_give_subsections}
use Rattle.wasm_base.proofs.laws.subsections_of_a_window.Goals as goal

pub returns : goal.returns
returns g c = runs_give_subsections g.T.Subsection.meaning g.T.Allocation.Allocation.ALLOCATES
