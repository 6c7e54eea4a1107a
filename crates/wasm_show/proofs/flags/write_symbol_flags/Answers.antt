use Rattle.std.proofs.Common.{codes, drop, false}
use Rattle.wasm_output.proofs.ForCallers.{says_same}
use Rattle.wasm_show.specs.FlagText.{symbol_words, unnamed}
use Rattle.wasm_show.proofs.FlagTexts.{parts_in_all, says_flag}
use Rattle.wasm_show.proofs.flags.write_symbol_flags.Goals as goal

pub returns-clause-says : goal.returns-clause-says
returns-clause-says g c =
    let bits = c.args.bits in
    let rest = unnamed symbol_words bits in
    says_same _ _ _ _ (parts_in_all symbol_words bits rest)
    (says_flag false _ (1, codes "BINDING_WEAK") (drop 1 symbol_words) bits rest _ _ _
    c.write_flag-names.ensures.has c.write_flag-names.ensures.says
    (says_flag c.write_flag-names.result _ (2, codes "BINDING_LOCAL") (drop 2 symbol_words) bits rest _ _ _
    c.write_flag-names-2.ensures.has c.write_flag-names-2.ensures.says
    (says_flag c.write_flag-names-2.result _ (4, codes "VISIBILITY_HIDDEN") (drop 3 symbol_words) bits rest _ _ _
    c.write_flag-names-3.ensures.has c.write_flag-names-3.ensures.says
    (says_flag c.write_flag-names-3.result _ (16, codes "UNDEFINED") (drop 4 symbol_words) bits rest _ _ _
    c.write_flag-names-4.ensures.has c.write_flag-names-4.ensures.says
    (says_flag c.write_flag-names-4.result _ (32, codes "EXPORTED") (drop 5 symbol_words) bits rest _ _ _
    c.write_flag-names-5.ensures.has c.write_flag-names-5.ensures.says
    (says_flag c.write_flag-names-5.result _ (64, codes "EXPLICIT_NAME") (drop 6 symbol_words) bits rest _ _ _
    c.write_flag-names-6.ensures.has c.write_flag-names-6.ensures.says
    (says_flag c.write_flag-names-6.result _ (128, codes "NO_STRIP") (drop 7 symbol_words) bits rest _ _ _
    c.write_flag-names-7.ensures.has c.write_flag-names-7.ensures.says
    (says_flag c.write_flag-names-7.result _ (256, codes "TLS") (drop 8 symbol_words) bits rest _ _ _
    c.write_flag-names-8.ensures.has c.write_flag-names-8.ensures.says
    (says_flag c.write_flag-names-8.result _ (512, codes "ABSOLUTE") (drop 9 symbol_words) bits rest _ _ _
    c.write_flag-names-9.ensures.has c.write_flag-names-9.ensures.says
    c.write_unnamed.ensures.says)))))))))
