use Rattle.std.proofs.Common.{None}
use Rattle.wasm_base.specs.Name.{text_at}
use Rattle.wasm_base.proofs.Lists.{gives_list}
use Rattle.wasm_custom.proofs.dylink0.read_texts.Goals as goal

pub returns-clause-gives : goal.returns-clause-gives
returns-clause-gives g c = gives_list (λ text. text.now) (text_at None) (λ list. list.items) _ _ _ c.read_text_list.ensures.means
