use Rattle.wasm_base.proofs.Lists.{gives_list}
use Rattle.wasm_custom.specs.Dylink0.{import_info_parts, import_info_at}
use Rattle.wasm_custom.proofs.dylink0.read_imports.Goals as goal

pub returns-clause-gives : goal.returns-clause-gives
returns-clause-gives g c = gives_list import_info_parts import_info_at (λ list. list.items) _ _ _ c.read_list.ensures.means
