use Rattle.wasm_output.proofs.Common.{refl, ap, lines}
use Rattle.wasm_output.proofs.Saying.{says_piece, says_some}
use Rattle.wasm_output.proofs.Writing.{puts_part}
use Rattle.wasm_output.proofs.lines.TextLines.short.Goals as goal

pub returns-clause-adds : goal.returns-clause-adds
returns-clause-adds g c o i =
    let text = g.T.ShortText.text c.args.text.now in
    puts_part _ o _ _ refl text c.begin.ensures.begun c.requires.one_line (c.put_text.ensures _) (c.begin.ensures.adds o i)

pub returns-clause-says : goal.returns-clause-says
returns-clause-says g c =
    let text = g.T.ShortText.text c.args.text.now in
    says_piece _ _ _ text (λ e. ap lines (c.begin.ensures.same e)) (c.put_text.ensures _)

pub returns-clause-some : goal.returns-clause-some
returns-clause-some g c = says_some (g.T.ShortText.text c.args.text.now) _ _ (returns-clause-says g c)
