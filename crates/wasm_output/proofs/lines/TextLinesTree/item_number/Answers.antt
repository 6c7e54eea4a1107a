use Rattle.wasm_output.proofs.Common.{refl, lines, lines_rest}
use Rattle.wasm_output.proofs.Writing.{puts_number}
use Rattle.wasm_output.proofs.lines.TextLinesTree.item_number.Goals as goal

pub returns : goal.returns
returns g c o i =
    let mid = c.begin.new.self in
    c.item_name.ensures _ (puts_number _ o (lines mid) _ refl (record { space = c.args.space; index = c.args.index })
    c.begin.ensures.begun (c.put_text.ensures (lines_rest mid)) (c.begin.ensures.adds o i))
