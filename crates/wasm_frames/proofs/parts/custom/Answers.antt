use Rattle.wasm_frames.proofs.Common.{Err, sym, ap, ◌∙◌}
use Rattle.wasm_frames.proofs.Forms.{custom_read, custom_refused}
use Rattle.wasm_frames.proofs.parts.custom.Goals as goal

pub returns-in-Err : goal.returns-in-Err
returns-in-Err g c = λ context end.
    custom_refused context c.args.id end c.args.window c.requires _
    (c.in-Err.ensures.gives ∙ ap Err (sym c.without_needed_hint.ensures.report)) c.without_needed_hint.ensures.hint

pub returns-in-Ok : goal.returns-in-Ok
returns-in-Ok g c = λ context end. rw c.custom.ensures
    (custom_read context c.args.id end c.args.window c.requires c.in-Ok.name _ c.in-Ok.ensures.gives c.in-Ok.ensures.keeps)
