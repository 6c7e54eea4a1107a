use Rattle.wasm_grammar.proofs.frames.SectionRanks as ranks
use Rattle.wasm_grammar.proofs.laws.ranks_ascend.Goals as goal

pub returns : goal.returns
returns c = ranks.ranks_ascend
