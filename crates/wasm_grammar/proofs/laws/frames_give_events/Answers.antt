use Rattle.wasm_grammar.proofs.frames.ReportedAs as reported_as
use Rattle.wasm_grammar.proofs.laws.frames_give_events.Goals as goal

pub returns : goal.returns
returns c = reported_as.frames_give_events
