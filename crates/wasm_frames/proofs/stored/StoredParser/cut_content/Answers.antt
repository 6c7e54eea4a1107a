use Rattle.wasm_frames.proofs.Common.{sym, ap, arith, place, numbers_of, known_context, option_to_list, ltb-true, ltb-false}
use Rattle.wasm_grammar.specs.KindInCode.{kind_is}
use Rattle.wasm_frames.proofs.CutParts.{never_cut, not_cut, content_cut, content_not_cut, section_passes}
use Rattle.wasm_frames.proofs.stored.StoredParser.cut_content.Goals as goal

pub returns-then-not-may_grow-clause-gives : goal.returns-then-not-may_grow-clause-gives
returns-then-not-may_grow-clause-gives c =
    never_cut (known_context (numbers_of c.args.self.now)) c.args.head.id c.args.head.size (place c.args.reader.now)
    (kind_is c.args.head.kind) (sym c.if-not-may_grow.ensures)

pub returns-then-not-is_cut-clause-gives : goal.returns-then-not-is_cut-clause-gives
returns-then-not-is_cut-clause-gives c =
    not_cut (known_context (numbers_of c.args.self.now)) c.args.head.id c.args.head.size (place c.args.reader.now)
    (kind_is c.args.head.kind) (sym c.if-not-may_grow.ensures)
    (ltb-false _ _ (sym c.if-not-is_cut.ensures))

pub returns-in-Ok-clause-gives : goal.returns-in-Ok-clause-gives
returns-in-Ok-clause-gives c =
    content_cut (known_context (numbers_of c.args.self.now)) c.args.head.id c.args.head.size (place c.args.reader.now) c.data_counts.result
    (kind_is c.args.head.kind) _ c.shrink.result c.in-Ok.frame
    (sym c.if-not-may_grow.ensures) (ap option_to_list (sym c.data_counts.ensures)) (ltb-true _ _ (sym c.if-not-is_cut.ensures))
    (omega (arith, c.original_position.ensures.offset, c.from.ensures)) c.shrink.ensures c.in-Ok.ensures

pub returns-in-Err-clause-gives : goal.returns-in-Err-clause-gives
returns-in-Err-clause-gives c =
    content_not_cut (known_context (numbers_of c.args.self.now)) c.args.head.id c.args.head.size (place c.args.reader.now)
    c.data_counts.result (kind_is c.args.head.kind) _ c.shrink.result c.in-Err.field-0 (ap option_to_list (sym c.data_counts.ensures))
    (ltb-true _ _ (sym c.if-not-is_cut.ensures))
    (omega (arith, c.original_position.ensures.offset, c.from.ensures)) c.shrink.ensures c.in-Err.ensures

pub returns-in-Ok-clause-passes : goal.returns-in-Ok-clause-passes
returns-in-Ok-clause-passes c =
    section_passes (numbers_of c.args.self.now) _ c.data_counts.result (kind_is c.args.head.kind) c.args.head.id c.shrink.result
    c.in-Ok.frame (sym c.if-not-may_grow.ensures) c.requires.closed
    (omega (arith, c.original_position.ensures.offset, c.from.ensures, c.requires.starts))
    (omega (arith, c.original_position.ensures.offset, c.from.ensures, c.requires.fits)) c.in-Ok.ensures
