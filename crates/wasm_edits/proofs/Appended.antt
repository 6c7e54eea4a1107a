-- The sections that edits append, one edit after the other.
use Rattle.wasm_edits.proofs.Common.{◌≡◌, ◌⊎◌, inl, inr, ℕ, ◌+◌, ◌-◌, ◌<◌, ◌≤◌, ◌^◌, List, [], ◌∷◌, ◌++◌, length, sym, ap, ◌∙◌, arith}
use Rattle.wasm_edits.proofs.Common.{subst, All, All-tail, drop, length-append, take}
use Rattle.std.proofs.Common.{slice_index_or}
use Rattle.std.proofs.lemmas.Bool.{cases_lt}
use Rattle.std.proofs.lemmas.List.{take_all}
use Rattle.wasm_edits.specs.EditParts.{IsLength}
use Rattle.wasm_edits.specs.Edits.{CanBeMade, added_by, bytes_as, new_bytes}
use Rattle.wasm_edits.specs.declared.edits.Edit.{Edit}
use Rattle.wasm_edits.specs.declared.edits.Fate.{Fate}
use Prim.Native.Nat.{min}

-- the edits after the first one
abbrev pub later : List Edit → List Edit
later edits = take (length edits - 1) (drop 1 edits)

first_apart : (d : Edit) (edits : List Edit) → 1 ≤ length edits → edits ≡ slice_index_or edits 0 d ∷ later edits
first_apart d [] l = absurd (omega (arith, l))
first_apart d (x ∷ edits) l =
    ap (λ (xs : List Edit). x ∷ xs) (sym (take_all (length (x ∷ edits) - 1) edits (omega arith)))

pub later_fit : (edits : List Edit) → 1 ≤ length edits → All CanBeMade edits → All CanBeMade (later edits)
later_fit [] l fits = absurd (omega (arith, l))
later_fit (x ∷ edits) l fits =
    All-tail CanBeMade x (later (x ∷ edits)) (subst (All CanBeMade) (first_apart x (x ∷ edits) l) fits)

-- the bytes of what the first edit appends come before those of the later ones
pub new_apart : (d : Edit) (edits : List Edit) (fate : Fate) (bytes : List ℕ) → 1 ≤ length edits
    → fate ≡ added_by (slice_index_or edits 0 d) (later edits) → bytes ≡ []
    → new_bytes edits ≡ bytes_as fate bytes ++ new_bytes (later edits)
new_apart d edits fate bytes l e b =
    ap new_bytes (first_apart d edits l)
    ∙ (ap (λ (f : Fate). bytes_as f [] ++ new_bytes (later edits)) (sym e)
    ∙ ap (λ (xs : List ℕ). bytes_as fate xs ++ new_bytes (later edits)) (sym b))

-- two lengths that may be too great for a number
pub both_lengths : (size n : ℕ) (bytes more : List ℕ) → IsLength size bytes → IsLength n more
    → IsLength (min (size + n) (2 ^ 64 - 1)) (bytes ++ more)
both_lengths size n bytes more (inr (i, l)) _ = inr (omega (arith, i), omega (arith, l, length-append bytes more))
both_lengths size n bytes more (inl i) (inr (k, l)) = inr (omega (arith, k), omega (arith, l, length-append bytes more))
both_lengths size n bytes more (inl i) (inl k) = by (cases_lt (size + n) (2 ^ 64 - 1))
  where
    by : (size + n < 2 ^ 64 - 1) ⊎ (2 ^ 64 - 1 ≤ size + n) → IsLength (min (size + n) (2 ^ 64 - 1)) (bytes ++ more)
    by (inl l) = inl (omega (arith, l, i, k, length-append bytes more))
    by (inr l) = inr (omega (arith, l), omega (arith, l, i, k, length-append bytes more))

-- one that is at most a lesser number than the greatest is the length
pub length_is : (size n : ℕ) (bytes : List ℕ) → IsLength size bytes → size ≤ n → n < 2 ^ 64 - 1 → size ≡ length bytes
length_is size n bytes (inl i) l below = i
length_is size n bytes (inr (i, m)) l below = absurd (omega (arith, i, l, below))
