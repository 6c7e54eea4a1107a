use Rattle.std.proofs.Common.{codes, drop, false}
use Rattle.wasm_output.proofs.ForCallers.{says_same}
use Rattle.wasm_show.specs.FlagText.{segment_words, unnamed}
use Rattle.wasm_show.proofs.FlagTexts.{parts_in_all, says_flag}
use Rattle.wasm_show.proofs.flags.write_segment_flags.Goals as goal

pub returns-clause-says : goal.returns-clause-says
returns-clause-says g c =
    let bits = c.args.bits in
    let rest = unnamed segment_words bits in
    says_same _ _ _ _ (parts_in_all segment_words bits rest)
    (says_flag false _ (1, codes "STRINGS") (drop 1 segment_words) bits rest _ _ _
    c.write_flag-names.ensures.has c.write_flag-names.ensures.says
    (says_flag c.write_flag-names.result _ (2, codes "TLS") (drop 2 segment_words) bits rest _ _ _
    c.write_flag-names-2.ensures.has c.write_flag-names-2.ensures.says
    (says_flag c.write_flag-names-2.result _ (4, codes "RETAIN") (drop 3 segment_words) bits rest _ _ _
    c.write_flag-names-3.ensures.has c.write_flag-names-3.ensures.says
    c.write_unnamed.ensures.says)))
