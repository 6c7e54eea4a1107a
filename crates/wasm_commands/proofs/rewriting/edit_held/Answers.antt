use Rattle.std.proofs.Common.{refl}
use Rattle.wasm_commands.proofs.Editing.{not_accepted}
use Rattle.wasm_commands.proofs.rewriting.edit_held.Goals as goal

pub returns : goal.returns
returns g c =
    let refused = not_accepted c.args.bytes.now c.in-Err.error c.in-Err.ensures (rw c.fault.ensures at c.in_default.not-OutOfMemory) in
    record { writes = (refused.0, refused.1, refl); sink = refl }
