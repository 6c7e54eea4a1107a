-- Pieces that are joined.
use Rattle.wasm_feed.proofs.Common.{◌≡◌, ℕ, ◌+◌, ◌<◌, List, ◌++◌, length, take, drop, slice_index_or, Bor, sym, ap, ◌∙◌, ◌≤◌, append-nil}
use Rattle.wasm_feed.proofs.Common.{take-append-drop, joined}
use Rattle.std.proofs.lemmas.List.{take_more}
use Rattle.std.proofs.lemmas.List.Concat.{flat_map-append}
use Rattle.std.proofs.lemmas.List.Folds.{length-flat_map-take}

-- one more chunk
pub joined_more : (pieces : List (Bor (List ℕ))) (i : ℕ) (d : Bor (List ℕ)) → i < length pieces → joined (take (i + 1) pieces)
    ≡ joined (take i pieces) ++ (slice_index_or pieces i d).now
joined_more pieces i d l =
    ap joined (take_more pieces i d l)
    ∙ (search (flat_map-append, append-nil))

-- the first chunks are no longer than all
pub joined_within : (pieces : List (Bor (List ℕ))) (i : ℕ) (d : Bor (List ℕ)) → i < length pieces
    → length (joined (take i pieces)) + length (slice_index_or pieces i d).now ≤ length (joined pieces)
joined_within pieces i d l = length-flat_map-take (λ (p : Bor (List ℕ)). p.now) pieces i d l

-- the first chunks and the others
pub joined_parts : (pieces : List (Bor (List ℕ))) (i : ℕ) → joined pieces ≡ joined (take i pieces) ++ joined (drop i pieces)
joined_parts pieces i = ap joined (sym (take-append-drop i pieces))
    ∙ flat_map-append (λ (p : Bor (List ℕ)). p.now) (take i pieces) (drop i pieces)
