use Rattle.wasm_output.proofs.Common.{ℕ, refl, List, ◌++◌, sym, ap, ◌∙◌, take, lines, lines_rest}
use Rattle.std.proofs.Common.{take-append-drop}
use Rattle.wasm_output.proofs.Writing.{puts_row}
use Rattle.wasm_output.proofs.lines.TextLines.put_rows.Goals as goal

pub rows-preserved : goal.rows-preserved
rows-preserved g c =
    let row = c.in-Some.ensures.some in
    let t = c.rows.self in
    let first = take c.in-Some.count t.rows in
    let put = rw (c.in-Some.ensures.base, row.row) at (c.put_text.ensures (lines_rest t)) in
    record {
      adds = λ o i. puts_row _ o (lines t) _ refl c.in-Some.row.offset first c.pass.new.self c.rows.invariant.ended put
          (sym (take-append-drop c.in-Some.count t.rows) ∙ ap (λ (x : List ℕ). first ++ x) (sym c.pass.ensures))
          (c.rows.invariant.adds o i);
      ended = c.rows.invariant.ended;
    }
