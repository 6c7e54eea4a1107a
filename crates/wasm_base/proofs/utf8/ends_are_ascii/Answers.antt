use Rattle.wasm_base.proofs.Ascii.{both_ends}
use Rattle.wasm_base.proofs.utf8.ends_are_ascii.Goals as goal

pub returns-then-are_below_128 : goal.returns-then-are_below_128
returns-then-are_below_128 g c = λ yes. both_ends g.row.N c.args.bytes.now c.requires.1 c.requires.2
    (c.are_below_128.ensures.0 c.if-are_below_128.true) (c.are_below_128-then-are_below_128.ensures.0 yes)
