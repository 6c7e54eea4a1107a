use Rattle.wasm_grammar.proofs.worked.Fields.{whole_readings}
use Rattle.wasm_grammar.proofs.laws.whole_readings.Goals as goal

pub returns : goal.returns
returns c = whole_readings
