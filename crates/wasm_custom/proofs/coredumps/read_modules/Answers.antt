use Rattle.wasm_base.proofs.Lists.{gives_list}
use Rattle.wasm_custom.specs.Coredumps.{module_at}
use Rattle.wasm_custom.proofs.coredumps.read_modules.Goals as goal

pub returns-clause-gives : goal.returns-clause-gives
returns-clause-gives g c = gives_list (λ name. name.now) (module_at c.args.start) (λ list. list.items) _ _ _ c.read_listed.ensures.means
