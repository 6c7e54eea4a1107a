use Rattle.wasm_base.proofs.Lists.{gives_list}
use Rattle.wasm_items.specs.RecGroups.{subtype_parts, subtype_at}
use Rattle.wasm_items.proofs.rec_groups.read_subtypes.Goals as goal

pub returns-clause-gives : goal.returns-clause-gives
returns-clause-gives c = gives_list subtype_parts subtype_at (λ list. list.items) _ _ _ c.read_list_in.ensures.means
