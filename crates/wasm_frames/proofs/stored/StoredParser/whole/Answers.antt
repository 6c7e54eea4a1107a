use Rattle.wasm_frames.proofs.Common.{place, numbers_of, err_from_is_err_and, known_context, ap, sym, option_to_list}
use Rattle.wasm_grammar.specs.KindInCode.{kind_is}
use Rattle.wasm_frames.proofs.Forms.{content_missing, content_read, first_place}
use Rattle.wasm_frames.proofs.stored.StoredParser.whole.Goals as goal

pub returns-in_err-window : goal.returns-in_err-window
returns-in_err-window g c =
    let e = err_from_is_err_and c.from_residual.result c.from_residual.ensures.1 in
    rw (e.1, e.2) (content_missing (known_context (numbers_of c.args.self.now)) (kind_is c.args.head.kind) c.args.head.id c.args.head.size
    (place c.args.reader.now) _ _ c.requires c.in_err-window.ensures.gives c.in_err-window.ensures.hints)

pub content-requires-clause-begins : goal.content-requires-clause-begins
content-requires-clause-begins g c = first_place _ _ _ _ c.in_ok-window.ensures.gives

pub returns : goal.returns
returns g c = content_read (known_context (numbers_of c.args.self.now)) c.data_counts.result (kind_is c.args.head.kind) c.args.head.id
    c.args.head.size _ (place c.args.reader.now) _ c.in_ok-window.window _ (ap option_to_list (sym c.data_counts.ensures))
    c.in_ok-window.ensures.gives c.original_position-end.ensures.offset c.content.ensures
