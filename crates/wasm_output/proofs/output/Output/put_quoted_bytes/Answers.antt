use Rattle.wasm_output.proofs.Common.{◌≡◌, false, List, ℕ, list_any, is_escaped, quoted_byte, subst, sym}
use Rattle.wasm_output.proofs.Putting.{puts_maps}
use Rattle.wasm_output.proofs.Saying.{plain_quoted}
use Rattle.wasm_output.proofs.output.Output.put_quoted_bytes.Goals as goal

pub runs-preserved : goal.runs-preserved
runs-preserved g c =
    let run = c.split_at.result.0.now in
    let plain = subst (λ (x : List ℕ). list_any is_escaped x ≡ false) (sym c.split_at.ensures.front) c.plain_count-count.ensures.plain in
    λ w p. c.runs.invariant w (puts_maps quoted_byte c.runs.rest.now run c.split_at.result.1.now run _ _ w c.split_at.ensures.by_index.0
    (plain_quoted run plain) c.put_more.ensures p)
