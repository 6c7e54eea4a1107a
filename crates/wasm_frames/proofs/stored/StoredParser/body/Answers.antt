use Rattle.wasm_frames.proofs.Common.{err_from_is_err_and}
use Rattle.wasm_frames.proofs.Bodies.{body_given, body_lacking}
use Rattle.wasm_frames.proofs.stored.StoredParser.body.Goals as goal

pub returns-in_err-size : goal.returns-in_err-size
returns-in_err-size g c =
    let e = err_from_is_err_and c.from_residual.result c.from_residual.ensures.1 in rw (e.1, e.2) c.in_err-size.ensures.0

pub returns-in_err-window : goal.returns-in_err-window
returns-in_err-window g c =
    let e = err_from_is_err_and c.from_residual-in_err-window.result c.from_residual-in_err-window.ensures.1 in
    rw (e.1, e.2) (c.in_ok-size.ensures.next _ _ (body_lacking _ _ _ _ c.in_err-window.ensures.gives c.in_err-window.ensures.hints))

pub returns : goal.returns
returns g c = rw c.body.ensures (c.in_ok-size.ensures.next _ _ (body_given _ _ _ _ c.in_ok-window.ensures.gives))
