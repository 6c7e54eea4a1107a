use Rattle.std.proofs.Common.{inl, inr}
use Rattle.std.proofs.lemmas.Result.{err_from_is_err_and}
use Rattle.wasm_commands.proofs.runner.Runner.search.Goals as goal

pub returns-in_err-only : goal.returns-in_err-only
returns-in_err-only g c =
    let e = err_from_is_err_and c.from_residual.result c.from_residual.ensures.1 in
    rw (e.1, e.2) (inl c.in_err-only.ensures)

pub returns-in_err-input : goal.returns-in_err-input
returns-in_err-input g c =
    let e = err_from_is_err_and c.from_residual-in_err-input.result c.from_residual-in_err-input.ensures.1 in
    rw (e.1, e.2) (inr (inl (rw c.in_ok-only.ensures at c.in_err-input.ensures)))

pub returns-in_err-end : goal.returns-in_err-end
returns-in_err-end g c =
    let e = err_from_is_err_and c.from_residual-in_err-end.result c.from_residual-in_err-end.ensures.1 in
    rw (e.1, e.2) (inr (inr (record {
      opened = c.in_ok-input.input;
      opens = rw c.in_ok-only.ensures at c.in_ok-input.ensures.0;
      how = c.find_named-how.result;
      ends = rw (c.in_ok-input.ensures.1, c.in_ok-only.ensures) at c.in_err-end.ensures;
    })))

pub returns : goal.returns
returns g c = record {
  opened = c.in_ok-input.input;
  opens = rw c.in_ok-only.ensures at c.in_ok-input.ensures.0;
  how = c.find_named-how.result;
  ends = rw (c.in_ok-input.ensures.1, c.in_ok-only.ensures) at c.in_ok-end.ensures;
}
