use Rattle.wasm_base.proofs.Lists.{gives_list}
use Rattle.wasm_custom.specs.Dylink0.{export_info_parts, export_info_at}
use Rattle.wasm_custom.proofs.dylink0.read_exports.Goals as goal

pub returns-clause-gives : goal.returns-clause-gives
returns-clause-gives g c = gives_list export_info_parts export_info_at (λ list. list.items) _ _ _ c.read_list.ensures.means
