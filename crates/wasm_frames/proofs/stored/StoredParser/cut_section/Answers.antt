use Rattle.wasm_frames.proofs.Common.{◌∙◌, sym, ap, place, numbers_of, known_context, is_some, asked_at_section, section_grammar}
use Rattle.wasm_frames.specs.Heads.{after_head}
use Rattle.wasm_frames.proofs.CutParts.{begun_not_cut, cut_as, fault_not_cut, not_begun}
use Rattle.wasm_frames.proofs.stored.StoredParser.cut_section.Goals as goal

pub returns-then-is_some-clause-gives : goal.returns-then-is_some-clause-gives
returns-then-is_some-clause-gives c =
    begun_not_cut (known_context (numbers_of c.args.self.now)) (place c.args.reader.now)
    (c.if-is_some.ensures ∙ ap is_some (c.missing_at_section.ensures ∙ ap asked_at_section c.remaining_buffer.ensures))

pub returns-in-Ok-clause-gives : goal.returns-in-Ok-clause-gives
returns-in-Ok-clause-gives c =
    let begun = not_begun (place c.args.reader.now).rest
    (c.if-is_some.ensures ∙ ap is_some (c.missing_at_section.ensures ∙ ap asked_at_section c.remaining_buffer.ensures)) in
    let h = c.in-Ok.ensures in
    cut_as _ (after_head (numbers_of c.args.self.now) c.in-Ok.head (place c.section_head.new.reader)) (place c.args.reader.now)
    (place c.section_head.new.reader) c.cut_content.result (sym h.features) (h.cuts begun) c.cut_content.ensures.gives

pub returns-in-Err-clause-gives : goal.returns-in-Err-clause-gives
returns-in-Err-clause-gives c =
    let begun = not_begun (place c.args.reader.now).rest
    (c.if-is_some.ensures ∙ ap is_some (c.missing_at_section.ensures ∙ ap asked_at_section c.remaining_buffer.ensures)) in
    fault_not_cut (section_grammar (known_context (numbers_of c.args.self.now)) (place c.args.reader.now).offset) (place c.args.reader.now)
    (c.in-Err.ensures.1 begun)
