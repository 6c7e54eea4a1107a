use Rattle.wasm_commands.proofs.Operands.{takes_extra}
use Rattle.wasm_commands.proofs.runner.Runner.only_of.Goals as goal

pub returns-in-len2-up : goal.returns-in-len2-up
returns-in-len2-up g c =
    takes_extra c.args.verb c.args.operands.now _ _ _ _ c.in-len2-up.len_at_least c.complain.ensures.status c.complain.ensures.tells
