use Rattle.wasm_output.proofs.Common.{refl, arith, ap, is_some, Put, lines, lines_rest}
use Rattle.wasm_output.proofs.Writing.{never_shown, stops_here}
use Rattle.wasm_output.proofs.lines.TextLinesTree.begin_part.Goals as goal

pub returns-then-is_some : goal.returns-then-is_some
returns-then-is_some g c o i = grind (arith, never_shown)

pub returns-in-Err : goal.returns-in-Err
returns-in-Err g c o i =
    let mid = c.rows_to_end.new.self in
    let stops = c.out_of_memory.ensures in
    never_shown _ o (lines (record mid { output = c.out_of_memory.new.self })) c.args.bytes.now refl
    (ap (λ (p : Put). is_some p.why) stops)
    (stops_here o (lines_rest mid) mid.output c.out_of_memory.new.self stops (c.rows_to_end.ensures.adds o i))
