use Rattle.std.proofs.Common.{inl, inr, refl}
use Rattle.std.proofs.lemmas.Result.{err_from_is_err_and}
use Rattle.wasm_commands.proofs.runner.Runner.begin.Goals as goal

pub returns-in_err-input : goal.returns-in_err-input
returns-in_err-input g c =
    let e = err_from_is_err_and c.from_residual-in_err-input.result c.from_residual-in_err-input.ensures.1 in
    rw (e.1, e.2) (inl (
      c.in_ok-names.names,
      c.take_names.new.self,
      c.in_ok-names.ensures,
      inr (c.in_err-input.field-0.0, refl, c.in_err-input.ensures),
    ))

pub returns-in_err-file : goal.returns-in_err-file
returns-in_err-file g c =
    let e = err_from_is_err_and c.from_residual-in_err-file.result c.from_residual-in_err-file.ensures.1 in
    rw (e.1, e.2) (inl (
      c.in_ok-names.names,
      c.take_names.new.self,
      c.in_ok-names.ensures,
      inl (c.in_ok-input.input, c.open.new.self, c.in_ok-input.ensures, c.in_err-file.ensures),
    ))

pub returns : goal.returns
returns g c = inl (
  c.in_ok-names.names,
  c.take_names.new.self,
  c.in_ok-names.ensures,
  inl (c.in_ok-input.input, c.open.new.self, c.in_ok-input.ensures, (refl, c.in_ok-file.ensures)),
)
