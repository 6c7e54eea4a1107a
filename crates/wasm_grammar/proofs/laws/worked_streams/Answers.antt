use Rattle.wasm_grammar.proofs.worked.Streams as worked
use Rattle.wasm_grammar.proofs.laws.worked_streams.Goals as goal

pub returns : goal.returns
returns c = worked.worked_streams
