use Rattle.std.proofs.Common.{inl}
use Rattle.wasm_commands.proofs.producers.producers.Goals as goal

pub set_or_show-requires : goal.set_or_show-requires
set_or_show-requires g c = rw c.deref.ensures.value (c.in-Ok.ensures.0)

pub returns-in-Ok : goal.returns-in-Ok
returns-in-Ok g c =
    let made = c.in-Ok.ensures in
    inl (tt, c.values.new.self, made.1, c.set_or_show.ensures)
