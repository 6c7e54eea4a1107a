use Rattle.wasm_base.proofs.Lists.{gives_whole_list}
use Rattle.wasm_items.specs.Values.{val_type_at}
use Rattle.wasm_items.proofs.rec_groups.read_val_types.Goals as goal

pub returns-clause-gives : goal.returns-clause-gives
returns-clause-gives c = gives_whole_list val_type_at (λ list. list) _ _ _ c.read_types.ensures.means
