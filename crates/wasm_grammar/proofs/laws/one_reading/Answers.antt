use Rattle.wasm_grammar.proofs.readings.Readings.{reading_same}
use Rattle.wasm_grammar.proofs.laws.one_reading.Goals as goal

pub returns : goal.returns
returns c = reading_same
