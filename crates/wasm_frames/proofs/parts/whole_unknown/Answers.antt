use Rattle.wasm_frames.proofs.Common.{◌+◌, err_from_is_err_and, place, unknown}
use Rattle.wasm_frames.proofs.Forms.{first_place, whole_read}
use Rattle.wasm_frames.proofs.Framed.{whole_missing}
use Rattle.wasm_frames.proofs.parts.whole_unknown.Goals as goal

pub returns-in_err-window : goal.returns-in_err-window
returns-in_err-window g c =
    let e = err_from_is_err_and c.from_residual.result c.from_residual.ensures.1 in
    λ context. rw (e.1, e.2) (whole_missing context unknown _ _ _ _ _ c.in_err-window.ensures.gives c.in_err-window.ensures.hints)

pub unknown-requires : goal.unknown-requires
unknown-requires g c = first_place _ _ _ _ c.in_ok-window.ensures.gives

pub returns : goal.returns
returns g c = λ context. whole_read context unknown c.args.id c.args.size (place c.args.reader.now) _ c.in_ok-window.window c.unknown.result
    c.in_ok-window.ensures.gives (c.unknown.ensures context ((place c.args.reader.now).offset + c.args.size))
