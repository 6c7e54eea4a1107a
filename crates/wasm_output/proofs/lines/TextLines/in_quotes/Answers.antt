use Rattle.wasm_output.proofs.Common.{arith, list_any-append}
use Rattle.wasm_output.proofs.Saying.{none_in_plain, plain_quoted, says_same}
use Rattle.wasm_output.proofs.lines.TextLines.in_quotes.Goals as goal

pub short-requires : goal.short-requires
short-requires g c = grind (arith, list_any-append, none_in_plain)

pub returns-in-Some-clause-says : goal.returns-in-Some-clause-says
returns-in-Some-clause-says g c = grind (arith, says_same, plain_quoted)
