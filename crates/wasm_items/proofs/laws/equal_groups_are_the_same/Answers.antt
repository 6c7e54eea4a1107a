use Rattle.wasm_items.proofs.SameGroup.{function, composite, subtype, group}
use Rattle.wasm_items.proofs.laws.equal_groups_are_the_same.Goals as goal

pub returns-clause-function : goal.returns-clause-function
returns-clause-function c = function

pub returns-clause-composite : goal.returns-clause-composite
returns-clause-composite c = composite

pub returns-clause-subtype : goal.returns-clause-subtype
returns-clause-subtype c = subtype

pub returns-clause-group : goal.returns-clause-group
returns-clause-group c = group
