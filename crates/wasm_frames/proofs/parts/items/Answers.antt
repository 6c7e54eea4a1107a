use Rattle.wasm_frames.proofs.Common.{Err, sym, ap, ◌∙◌, place, is_miscounted}
use Rattle.wasm_frames.proofs.Forms.{holds_count, items_read, items_miscounted, items_refused}
use Rattle.wasm_frames.proofs.parts.items.Goals as goal

pub returns-in-Err : goal.returns-in-Err
returns-in-Err g c = λ context same.
    items_refused context c.args.id c.args.end c.args.window c.requires.begins _
    (c.in-Err.ensures.gives ∙ ap Err (sym c.without_needed_hint.ensures.report)) c.without_needed_hint.ensures.hint

pub returns-then-is_miscounted : goal.returns-then-is_miscounted
returns-then-is_miscounted g c = λ context same.
    items_miscounted context c.args.id c.args.end c.args.window c.requires.begins c.in-Ok.count (place c.read_var_u32.new.self) c.new.result
    c.in-Ok.ensures.gives (c.if-is_miscounted.ensures ∙ ap (λ counts. is_miscounted counts c.args.id c.in-Ok.count) (sym same))
    c.new.ensures.report c.new.ensures.hint

pub items-requires : goal.items-requires
items-requires g c = holds_count c.args.id c.in-Ok.count c.args.window c.read_var_u32.new.self c.requires.begins c.requires.known
    c.in-Ok.ensures.gives c.in-Ok.ensures.keeps

pub returns : goal.returns
returns g c = λ context same. rw c.items.ensures
    (items_read context c.args.id c.args.end c.args.window c.requires.begins c.in-Ok.count c.read_var_u32.new.self
    c.in-Ok.ensures.gives c.in-Ok.ensures.keeps
    (c.if-is_miscounted.ensures ∙ ap (λ counts. is_miscounted counts c.args.id c.in-Ok.count) (sym same)))
