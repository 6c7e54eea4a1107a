use Rattle.wasm_output.proofs.Common.{true, refl, [], ◌++◌, codes, option_map, name_text, lines}
use Rattle.wasm_output.proofs.Saying.{has_nothing, still_same}
use Rattle.wasm_output.proofs.Writing.{named_more, puts_line}
use Rattle.wasm_output.proofs.lines.TextLines.first_with_name.Goals as goal

pub returns : goal.returns
returns g c outline numbers e o i =
    let name = option_map (λ n. n.now) c.args.name in
    let text = g.T.ShortText.text c.args.text.now in
    let mid = c.rows_to_cut.new.self in
    let since = lines (record mid { is_begun = true }) in
    let line = text ++ (name_text name ++ codes "\n") in
    let has = c.named_text.ensures since [] (has_nothing since refl refl) in
    puts_line _ o _ _ line outline numbers (named_more _ text outline numbers name e) refl c.rows_to_cut.ensures.ended
    (still_same _ _ line has) has.puts (c.rows_to_cut.ensures.adds o i)
