use Rattle.std.proofs.Common.{arith}
use Rattle.std.proofs.lemmas.List.{get_or_default}
use Rattle.wasm_commands.proofs.Choosing.{choose_next}
use Rattle.wasm_commands.proofs.dump.choices.chosen_by.Goals as goal

pub loop-word-preserved : goal.loop-word-preserved
loop-word-preserved c = choose_next (λ word. word.now) c.args.words.now c.loop-word.word-index _ _ _ _ (omega arith)
    (get_or_default c.args.words.now c.loop-word.word-index _ _ (omega arith)) c.loop-word.invariant c.sections_named.ensures
    c.in_ok-push.ensures.items
