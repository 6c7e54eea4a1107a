use Rattle.wasm_frames.proofs.Common.{refl, ap, ◌∙◌, arith, err_from_is_err_and, at_offset, place, UnexpectedEof, TrailingCode, numbers_of}
use Rattle.wasm_frames.proofs.Bodies.{past_same}
use Rattle.wasm_frames.proofs.Heads.{none_remains, size_alone, size_past, size_within}
use Rattle.wasm_frames.proofs.stored.StoredParser.body_head.Goals as goal

pub returns-then-self-eq0 : goal.returns-then-self-eq0
returns-then-self-eq0 c =
    none_remains (numbers_of c.args.self.now) (place c.args.reader.now) c.new.result _ c.if-self-eq0.true
    (c.new.ensures.report ∙ ap (at_offset TrailingCode) c.original_position-start.ensures.offset) c.new.ensures.hint

pub returns-in_err-size : goal.returns-in_err-size
returns-in_err-size c =
    let e = err_from_is_err_and c.from_residual.result c.from_residual.ensures.1 in
    rw (e.1, e.2) (size_alone (numbers_of c.args.self.now) (place c.args.reader.now) _ _ (omega (arith, c.if-self-eq0.false))
    c.in_err-size.ensures.gives c.in_err-size.ensures.hints)

pub returns-then-passes : goal.returns-then-passes
returns-then-passes c =
    let at = c.original_position-start.ensures.offset in
    let after = c.original_position.ensures.offset in
    size_past (numbers_of c.args.self.now) (place c.args.reader.now) (place c.read_var_u32.new.self) c.in_ok-size.size
    (omega (arith, c.if-self-eq0.false)) c.in_ok-size.ensures.gives c.new-then-passes.result _
    (past_same _ refl after at c.passes.ensures c.if-passes.true) (c.new-then-passes.ensures.report ∙ ap (at_offset UnexpectedEof) at)
    c.new-then-passes.ensures.hint

pub returns : goal.returns
returns c =
    let at = c.original_position-start.ensures.offset in
    let after = c.original_position.ensures.offset in
    size_within (numbers_of c.args.self.now) (place c.args.reader.now) (place c.read_var_u32.new.self) c.in_ok-size.size
    (omega (arith, c.if-self-eq0.false)) c.in_ok-size.ensures.gives (past_same _ refl after at c.passes.ensures c.if-passes.false)
