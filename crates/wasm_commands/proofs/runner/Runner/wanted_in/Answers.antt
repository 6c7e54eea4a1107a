use Rattle.std.proofs.Common.{arith}
use Rattle.wasm_commands.proofs.Operands.{takes_none, takes_third}
use Rattle.wasm_commands.proofs.runner.Runner.wanted_in.Goals as goal

pub returns-in-empty : goal.returns-in-empty
returns-in-empty g c =
    takes_none c.args.operands.now _ _ _ c.complain.ensures.status (omega (arith, c.in-empty.len_below)) c.complain.ensures.tells

pub returns-in-len3-up : goal.returns-in-len3-up
returns-in-len3-up g c = takes_third c.args.operands.now _ _ _ c.complain-in-len3-up.ensures.status _
    c.in-len3-up.len_at_least c.complain-in-len3-up.ensures.tells
