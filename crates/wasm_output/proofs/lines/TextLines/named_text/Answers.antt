use Rattle.wasm_output.proofs.Common.{refl, ◌++◌, codes, option_map, name_text}
use Rattle.wasm_output.proofs.Saying.{says_piece, says_then}
use Rattle.wasm_output.proofs.lines.TextLines.named_text.Goals as goal

pub returns : goal.returns
returns g c =
    let name = name_text (option_map (λ n. n.now) c.args.name) in
    let text = g.T.ShortText.text c.args.text.now in
    says_then text (name ++ codes "\n") _ _ _ (says_piece _ _ _ text (λ e. refl) (c.put_text.ensures _))
    (says_then name (codes "\n") _ _ _ c.name_in_quotes.ensures.says (says_piece _ _ _ (codes "\n") (λ e. refl) (c.put.ensures _)))
