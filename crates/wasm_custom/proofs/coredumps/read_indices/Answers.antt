use Rattle.wasm_base.proofs.Lists.{gives_whole_list}
use Rattle.wasm_base.specs.Number.{unsigned_at}
use Rattle.wasm_base.specs.declared.fault.NumberKind.TheVariants.{VarU32}
use Rattle.wasm_custom.proofs.coredumps.read_indices.Goals as goal

pub returns-clause-gives : goal.returns-clause-gives
returns-clause-gives g c = gives_whole_list (unsigned_at VarU32) (λ list. list.items) _ _ _ c.read_list.ensures.means
