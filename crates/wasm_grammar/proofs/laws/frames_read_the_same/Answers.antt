use Rattle.wasm_grammar.proofs.frames.Kept as kept
use Rattle.wasm_grammar.proofs.laws.frames_read_the_same.Goals as goal

pub returns : goal.returns
returns c = kept.frames_read_the_same
