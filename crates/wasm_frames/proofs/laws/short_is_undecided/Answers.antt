use Rattle.wasm_grammar.proofs.endings.Undecided.{one_comes, enough_is_decided, short_is_undecided}
use Rattle.wasm_frames.proofs.laws.short_is_undecided.Goals as goal

pub returns-clause-next : goal.returns-clause-next
returns-clause-next c = one_comes c.args.offset c.args.front.now

pub returns-clause-decided : goal.returns-clause-decided
returns-clause-decided c = enough_is_decided c.args.offset c.args.front.now c.args.data.now

pub returns-clause-undecided : goal.returns-clause-undecided
returns-clause-undecided c = short_is_undecided c.args.offset c.args.front.now c.args.data.now
