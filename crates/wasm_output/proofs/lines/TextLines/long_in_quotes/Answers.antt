use Rattle.wasm_output.proofs.Common.{◌++◌, codes, ap, flat_map, quoted_byte}
use Rattle.wasm_output.proofs.Saying.{says_same, says_then}
use Rattle.wasm_output.proofs.lines.TextLines.long_in_quotes.Goals as goal

pub returns-clause-says : goal.returns-clause-says
returns-clause-says g c =
    let middle = flat_map quoted_byte c.args.text.now in
    says_then (codes "\"") (middle ++ codes "\"") _ _ _ c.bytes.ensures.says
    (says_then middle (codes "\"") _ _ _
    (says_same (flat_map quoted_byte c.as_bytes.result.now) middle _ _ (ap (flat_map quoted_byte) c.as_bytes.ensures.value)
    c.quoted_bytes.ensures.says) c.bytes-2.ensures.says)
