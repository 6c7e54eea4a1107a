use Rattle.std.proofs.Common.{inl}
use Rattle.wasm_commands.proofs.runner.Runner.additions_of.Goals as goal

pub returns : goal.returns
returns g c =
    let made = c.in_ok-operands.ensures in
    inl (tt, c.operands.new.self, made.1, rw (c.deref.ensures.value, made.0) at c.additions_in.ensures)
