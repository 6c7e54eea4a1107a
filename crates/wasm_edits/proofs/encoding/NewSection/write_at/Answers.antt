use Rattle.wasm_edits.proofs.Common.{arith, ◌∙◌}
use Rattle.std.proofs.lemmas.List.{drop-set-lt}
use Rattle.wasm_edits.proofs.RestStays.{stays_after}
use Rattle.wasm_edits.proofs.encoding.NewSection.write_at.Goals as goal

pub returns-clause-rest : goal.returns-clause-rest
returns-clause-rest c =
    let after_size = c.write_number-after_size.result in
    let before_name = c.write_number-before_name.result in
    let after_name = c.write_bytes-after_name.result in
    let first = c.write_number-after_size.ensures.rest
    ∙ drop-set-lt after_size _ c.args.at _ (omega (arith, c.write_number-after_size.ensures.end)) in
    let second = stays_after after_size before_name _ _ _ (omega (arith, c.write_number-before_name.ensures.end))
    c.write_number-before_name.ensures.rest first in
    let third = stays_after before_name after_name _ _ _ (omega (arith, c.write_bytes-after_name.ensures.end))
    c.write_bytes-after_name.ensures.rest second in
    stays_after after_name c.write_bytes.result _ _ _ (omega (arith, c.write_bytes.ensures.end)) c.write_bytes.ensures.rest third
