use Rattle.wasm_edits.proofs.Common.{◌++◌, ap, sym, ◌∙◌, append_assoc, inl}
use Rattle.wasm_edits.proofs.Appended.{later_fit, both_lengths, new_apart}
use Rattle.wasm_edits.specs.Edits.{bytes_as}
use Rattle.wasm_edits.proofs.editing.new_len.Goals as goal

pub edits-preserved : goal.edits-preserved
edits-preserved c =
    let edits = c.edits.rest.now in
    let (bytes, size, whole) = c.edits.invariant.counted in
    let part = c.new_part.result in
    let new = bytes_as part.fate part.bytes.now in
    record {
      counted = (
        bytes ++ new,
        rw c.saturating_add-size.ensures (both_lengths _ _ bytes new size (inl c.size.ensures)),
        whole ∙ (ap (λ xs. bytes ++ xs)
            (new_apart _ edits part.fate part.bytes.now c.in-len1-up.len_at_least c.new_part.ensures.fate c.new_part.ensures.bytes)
            ∙ sym (append_assoc bytes new _)),
      );
      fit = later_fit edits c.in-len1-up.len_at_least c.edits.invariant.fit;
    }
