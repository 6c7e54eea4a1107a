use Rattle.wasm_base.proofs.Lists.{gives_list}
use Rattle.wasm_custom.specs.Coredumps.{instance_parts, instance_at}
use Rattle.wasm_custom.proofs.coredumps.read_instances.Goals as goal

pub returns-clause-gives : goal.returns-clause-gives
returns-clause-gives g c = gives_list instance_parts instance_at (λ list. list.items) _ _ _ c.read_listed.ensures.means
