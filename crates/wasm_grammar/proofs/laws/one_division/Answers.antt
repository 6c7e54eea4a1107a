use Rattle.wasm_grammar.proofs.frames.ReportedAs as reported_as
use Rattle.wasm_grammar.proofs.laws.one_division.Goals as goal

pub returns : goal.returns
returns c = reported_as.one_division
