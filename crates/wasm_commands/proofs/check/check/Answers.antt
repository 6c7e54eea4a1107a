use Rattle.std.proofs.Common.{inl}
use Rattle.wasm_commands.proofs.check.check.Goals as goal

pub returns-in-Ok : goal.returns-in-Ok
returns-in-Ok g c =
    let made = c.in-Ok.ensures in
    inl (
      tt,
      c.operands.new.self,
      made.1,
      rw (← c.has.ensures, ← made.0, ← c.as_slice.ensures.value) c.use_files.ensures,
    )
