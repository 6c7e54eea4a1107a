use Rattle.wasm_grammar.proofs.parts.Bounds as bounds
use Rattle.wasm_grammar.proofs.laws.fault_lies_within.Goals as goal

pub returns : goal.returns
returns c = bounds.fault_lies_within
