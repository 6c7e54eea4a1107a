use Rattle.std.proofs.Common.{Err, ap, ◌∙◌}
use Rattle.std.proofs.lemmas.Result.{err_from_is_err_and}
use Rattle.wasm_console.proofs.Reading.{given_up}
use Rattle.wasm_console.proofs.stripping.read_all.Goals as goal

pub returns-in_err-read_piece-clause-reads : goal.returns-in_err-read_piece-clause-reads
returns-in_err-read_piece-clause-reads g c =
    let r = c.from_residual-in_err-read_piece in
    let e = err_from_is_err_and r.result r.ensures.1 in
    given_up _ _ _ c.pieces.bytes.items c.pieces.bytes.items c.read_piece.new.bytes.items _ c.pieces.invariant.gave
    c.in_err-read_piece.ensures.reads r.result (e.1 ∙ ap Err e.2)
