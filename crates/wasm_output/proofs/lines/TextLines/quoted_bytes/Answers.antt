use Rattle.wasm_output.proofs.Common.{◌≡◌, ℕ, false, arith, List, sym, subst, rules, list_any, is_escaped, quoted_byte}
use Rattle.wasm_output.proofs.Saying.{maps_parts, plain_quoted, none_in_plain}
use Rattle.wasm_output.proofs.lines.TextLines.quoted_bytes.Goals as goal

pub piece-requires-clause-one_line : goal.piece-requires-clause-one_line
piece-requires-clause-one_line g c = grind (arith, none_in_plain)

pub runs-preserved : goal.runs-preserved
runs-preserved g c =
    let run = c.split_at.result.0.now in
    let plain = subst (λ (x : List ℕ). list_any is_escaped x ≡ false) (sym c.split_at.ensures.front) c.plain_count-count.ensures.plain in
    record {
      adds = search rules;
      says = λ w p. c.runs.invariant.says w (maps_parts quoted_byte c.runs.rest.now run c.split_at.result.1.now run _ _ w
          c.split_at.ensures.by_index.0 (plain_quoted run plain) c.piece.ensures.says p);
    }
