use Rattle.wasm_output.proofs.Common.{◌++◌, codes, flat_map, quoted_byte}
use Rattle.wasm_output.proofs.Saying.{says_then}
use Rattle.wasm_output.proofs.lines.TextLines.name_in_quotes.Goals as goal

pub returns-in-Some-clause-says : goal.returns-in-Some-clause-says
returns-in-Some-clause-says g c =
    let name = codes "\"" ++ (flat_map quoted_byte c.in-Some.name.now ++ codes "\"") in
    rw c.in-Some.is (says_then (codes " ") name _ _ _ c.bytes.ensures.says c.in_quotes.ensures.says)
