-- Sections at the front of other bytes.
use Rattle.std.proofs.Common.{◌≡◌, ◌∙◌, ℕ, ◌+◌, ◌≤◌, List, ◌++◌, length, take, drop, ap, sym, arith}
use Rattle.std.proofs.lemmas.List.{take-append-drop}
use Rattle.wasm_edits.specs.Edited.{FillsFront}

-- bytes that were written at the index 0, where there was room for them
pub written_at_front : {size : ℕ} (bytes old new : List ℕ) (end : ℕ) → end ≡ 0 + length bytes
    → take end new ≡ take 0 old ++ bytes → drop end new ≡ drop end old → size ≡ length bytes → size ≤ length old
    → FillsFront bytes old new
written_at_front bytes old new end is written rest size room =
    let at_end : end ≡ length bytes = omega (arith, is) in (
      λ f. sym (take-append-drop end new) ∙ (ap (λ (xs : List ℕ). xs ++ drop end new) written
          ∙ (ap (λ (xs : List ℕ). bytes ++ xs) rest ∙ ap (λ (n : ℕ). bytes ++ drop n old) at_end)),
      λ less. absurd (omega (arith, less, size, room)),
    )
