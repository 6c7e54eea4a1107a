use Rattle.std.proofs.Common.{arith}
use Rattle.std.proofs.lemmas.List.{get_or_default}
use Rattle.wasm_commands.proofs.Turns.{next_in_turn}
use Rattle.wasm_commands.proofs.runner.Runner.warn_of_unfound.Goals as goal

pub loop-word-preserved : goal.loop-word-preserved
loop-word-preserved g c =
    rw (c.max-status.ensures, c.status_of.ensures)
    (next_in_turn _ _ _ _ (λ word. word.now) c.args.plan.words.now c.loop-word.word-index _ _ _ (omega arith)
    (get_or_default c.args.plan.words.now c.loop-word.word-index _ _ (omega arith)) c.warn_unless_found-ended.ensures
    c.loop-word.invariant)
