use Rattle.std.proofs.Common.{arith}
use Rattle.std.proofs.lemmas.List.{get_or_default}
use Rattle.wasm_commands.proofs.Turns.{next_in_turn}
use Rattle.wasm_commands.proofs.files.do_in_turn.Goals as goal

pub loop-name-preserved : goal.loop-name-preserved
loop-name-preserved g c =
    rw (c.max-status.ensures, c.status_of.ensures)
    (next_in_turn _ _ _ _ (λ name. name.now) c.args.names.now c.loop-name.name-index _ _ _ (omega arith)
    (get_or_default c.args.names.now c.loop-name.name-index _ _ (omega arith)) c.do_task-ended.ensures c.loop-name.invariant)
