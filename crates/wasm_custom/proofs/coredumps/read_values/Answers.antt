use Rattle.wasm_base.proofs.Lists.{gives_list}
use Rattle.wasm_custom.specs.Coredumps.{value_parts, value_at}
use Rattle.wasm_custom.proofs.coredumps.read_values.Goals as goal

pub returns-clause-gives : goal.returns-clause-gives
returns-clause-gives g c = gives_list value_parts value_at (λ list. list.items) _ _ _ c.read_list.ensures.means
