use Rattle.wasm_commands.proofs.Coloring.{stays_at_head}
use Rattle.wasm_commands.proofs.dump.colored.write_after.Goals as goal

pub returns-clause-err : goal.returns-clause-err
returns-clause-err g c =
    stays_at_head c.write.result _ _ _ c.args.head.now c.args.body.now c.in_ok-write_all.ensures.ok c.write.ensures.bytes
