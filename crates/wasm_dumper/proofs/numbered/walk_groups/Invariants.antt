use Rattle.wasm_base.specs.Section.{most_items}
use Rattle.wasm_dumper.specs.Walks.{OwesGroups}
use Rattle.wasm_show.proofs.ForCallers.{SoFar}
use Rattle.wasm_dumper.proofs.numbered.walk_groups.Given as goal

abbrev pub invariant-groups : goal.invariant-groups
invariant-groups g l = SoFar g.W.Walker.saw g.W.Walker.why OwesGroups (0, l.initial.groups) (l.index, l.groups) l.initial.walker l.walker

abbrev pub decreases-groups : goal.decreases-groups
decreases-groups g l = most_items l.groups
