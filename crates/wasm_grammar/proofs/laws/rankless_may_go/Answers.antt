use Rattle.wasm_grammar.proofs.frames.Kept as kept
use Rattle.wasm_grammar.proofs.laws.rankless_may_go.Goals as goal

pub returns : goal.returns
returns c = kept.rankless_may_go
