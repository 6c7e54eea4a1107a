use Rattle.wasm_grammar.proofs.readings.Longest.{longest}
use Rattle.wasm_grammar.proofs.laws.longest_tiling.Goals as goal

pub returns : goal.returns
returns c = longest
