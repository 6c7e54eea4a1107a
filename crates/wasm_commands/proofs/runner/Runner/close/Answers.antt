use Rattle.std.proofs.Common.{inl, refl}
use Rattle.wasm_commands.proofs.runner.Runner.close.Goals as goal

pub returns : goal.returns
returns g c = inl (c.in_ok-replace.field-0, c.replace.new.self, rw c.is_ok.ensures.value at c.in_ok-replace.ensures, (refl, refl))
