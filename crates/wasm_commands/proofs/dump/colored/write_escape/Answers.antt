use Rattle.wasm_commands.proofs.Coloring.{escape_written}
use Rattle.wasm_commands.proofs.dump.colored.write_escape.Goals as goal

pub returns-clause-bytes : goal.returns-clause-bytes
returns-clause-bytes g c =
    let w = c.write_after.ensures in
    escape_written c.write_after.result _ _ w.bound w.some w.ok w.err
