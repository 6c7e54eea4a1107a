use Rattle.wasm_output.proofs.Common.{refl, ap, lines}
use Rattle.wasm_output.proofs.Saying.{says_piece, says_some}
use Rattle.wasm_output.proofs.Writing.{puts_part}
use Rattle.wasm_output.proofs.lines.TextLines.piece.Goals as goal

pub returns-clause-adds : goal.returns-clause-adds
returns-clause-adds g c o i =
    puts_part _ o _ _ refl _ c.begin.ensures.begun c.requires.one_line (c.put.ensures _) (c.begin.ensures.adds o i)

pub returns-clause-says : goal.returns-clause-says
returns-clause-says g c = says_piece _ _ _ _ (λ e. ap lines (c.begin.ensures.same e)) (c.put.ensures _)

pub returns-clause-some : goal.returns-clause-some
returns-clause-some g c = says_some c.args.bytes.now _ _ (returns-clause-says g c)
