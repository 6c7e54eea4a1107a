use Rattle.wasm_grammar.proofs.worked.Fields.{long_fields}
use Rattle.wasm_grammar.proofs.laws.long_fields.Goals as goal

pub returns : goal.returns
returns c = long_fields
