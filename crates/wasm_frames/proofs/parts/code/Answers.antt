use Rattle.wasm_frames.proofs.Common.{◌+◌, ap, ◌∙◌, arith, ◌-◌, err_from_is_err_and, at_offset, UnexpectedEof, FunctionCodeDiffer}
use Rattle.wasm_frames.proofs.Common.{CodeWithoutFunction, code_start}
use Rattle.wasm_frames.proofs.Bodies.{code_no_count, code_short, code_wrong, code_read, counts_differ, no_function, right_count}
use Rattle.wasm_frames.proofs.parts.code.Goals as goal

pub returns-in_err-count : goal.returns-in_err-count
returns-in_err-count g c =
    λ context same. let e = err_from_is_err_and c.from_residual.result c.from_residual.ensures.1 in
    rw (e.1, e.2) (code_no_count context _ _ _ _ c.in_err-count.ensures.gives c.in_err-count.ensures.hints)

pub returns-then-end-after : goal.returns-then-end-after
returns-then-end-after g c = λ context same.
    let at = c.original_position-start.ensures.offset in
    let after = c.original_position-after.ensures.offset in
    code_short context _ _ _ _ c.in_ok-count.ensures.gives _ _ (omega (arith, at, after, c.from.ensures, c.if-end-after.true))
    (c.new.ensures.report ∙ ap (at_offset UnexpectedEof) at) c.new.ensures.hint

pub returns-then-differs : goal.returns-then-differs
returns-then-differs g c = λ context same.
    let at = c.original_position-start.ensures.offset in
    let after = c.original_position-after.ensures.offset in
    code_wrong context _ _ _ _ c.in_ok-count.ensures.gives _ _ (omega (arith, at, after, c.from.ensures, c.if-end-after.false))
    (counts_differ context _ c.in_ok-count.count _ (rw same c.if-differs.ensures)
    (c.new-then-differs.ensures.report ∙ ap (at_offset FunctionCodeDiffer) at)) c.new-then-differs.ensures.hint

pub returns-then-lacks : goal.returns-then-lacks
returns-then-lacks g c = λ context same.
    let at = c.original_position-start.ensures.offset in
    let after = c.original_position-after.ensures.offset in
    code_wrong context _ _ _ _ c.in_ok-count.ensures.gives _ _ (omega (arith, at, after, c.from.ensures, c.if-end-after.false))
    (no_function context _ c.in_ok-count.count _ (rw same c.if-differs.ensures) (rw same c.if-lacks.ensures)
    (c.new-then-lacks.ensures.report ∙ ap (at_offset CodeWithoutFunction) at)) c.new-then-lacks.ensures.hint

pub returns : goal.returns
returns g c = λ context same.
    let at = c.original_position-start.ensures.offset in
    let after = c.original_position-after.ensures.offset in
    rw c.code_start.ensures (code_read context c.args.size _ _ c.in_ok-count.count c.in_ok-count.ensures.gives _
    (omega (arith, at, after, c.from.ensures, c.if-end-after.false))
    (right_count context _ c.in_ok-count.count (rw same c.if-differs.ensures) (rw same c.if-lacks.ensures))
    (λ i. code_start c.in_ok-count.count (at i) (at i + c.from.ensures i) (at i + c.from.ensures i - after i)))
