use Rattle.wasm_frames.proofs.Common.{Err, sym, ap, ◌∙◌, eqb-true, at_offset, place}
use Rattle.wasm_frames.proofs.Forms.{single_refused, single_trailing, single_read}
use Rattle.wasm_frames.proofs.parts.only_u32.Goals as goal

pub returns-in-Err-clause-reads : goal.returns-in-Err-clause-reads
returns-in-Err-clause-reads c =
    let same = c.without_needed_hint.ensures.report in
    single_refused c.args.trailing (place c.args.window) _ (c.in-Err.ensures.gives ∙ ap Err (sym same))

pub returns-then-not-eof-clause-reads : goal.returns-then-not-eof-clause-reads
returns-then-not-eof-clause-reads c =
    single_trailing c.args.trailing (place c.args.window) c.in-Ok.number (place c.read_var_u32.new.self) c.new.result c.in-Ok.ensures.gives
    c.if-not-eof.ensures
    (c.new.ensures.report ∙ ap (at_offset c.args.trailing) c.original_position.ensures.offset)

pub returns-clause-reads : goal.returns-clause-reads
returns-clause-reads c = single_read _ _ _ _ c.in-Ok.ensures.gives (eqb-true _ _ (sym c.if-not-eof.ensures))
