use Rattle.wasm_frames.proofs.Common.{sym, arith, place, ltb-true, ltb-false}
use Rattle.wasm_frames.specs.Heads.{after_size}
use Rattle.wasm_frames.proofs.CutParts.{cut_as, size_cut, size_not_cut}
use Rattle.wasm_frames.proofs.stored.StoredParser.cut_body.Goals as goal

pub returns-then-not-is_cut-clause-gives : goal.returns-then-not-is_cut-clause-gives
returns-then-not-is_cut-clause-gives c =
    let h = c.in-Ok.ensures in
    cut_as _ (after_size c.in-Ok.size (place c.body_head.new.reader)) (place c.args.reader.now) (place c.body_head.new.reader) _
    (sym h.features) h.cuts (size_not_cut c.in-Ok.size (place c.body_head.new.reader) (ltb-false _ _ (sym c.if-not-is_cut.ensures)))

pub returns-else-not-is_cut-clause-gives : goal.returns-else-not-is_cut-clause-gives
returns-else-not-is_cut-clause-gives c =
    let h = c.in-Ok.ensures in
    rw (c.body.ensures, c.shrink.ensures)
    (cut_as _ (after_size c.in-Ok.size (place c.body_head.new.reader)) (place c.args.reader.now) (place c.body_head.new.reader) _
    (sym h.features) h.cuts (size_cut c.in-Ok.size _ (place c.body_head.new.reader)
    (ltb-true _ _ (sym c.if-not-is_cut.ensures)) (omega (arith, c.original_position.ensures.offset, c.from.ensures))))
