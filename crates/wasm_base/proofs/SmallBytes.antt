-- Bytes below 128, 32 at once.
use Rattle.std.proofs.Common.{◌≡◌, ◌≢◌, ℕ, zero, suc, ◌+◌, ◌*◌, ◌%◌, ◌^◌, ◌<◌, ◌≤◌, ◌↔◌, Bool, true, false, not, cond, eqb, leb, List, []}
use Rattle.std.proofs.Common.{◌∷◌, map, length, take, replicate, refl, sym, ap, ◌∙◌, arith, eqb-true, eq-eqb, leb-false, leb-true}
use Rattle.std.specs.Prelude.{All}
use Rattle.std.proofs.lemmas.Simd.{length-zip2, mask_l-mod, trailing_mask_l, leading_from_mask_l}
use Rattle.std.proofs.lemmas.List.{length-map, length-replicate}
use Rattle.wasm_base.specs.SmallBytes.{is_large, continuation_bytes, small_prefix}
use lib.Count.{count_trailing_zeros}
use lib.Lanes.{zip2, mask_l, top}

-- a lane of the comparison
abbrev pub lane : ℕ → ℕ → ℕ
lane a b = cond (leb a b) 255 0

-- the bits of all lanes
abbrev pub lanes : ℕ → List ℕ → ℕ
lanes n xs = mask_l (map (top 7) (zip2 lane (replicate n 128) xs))

top_of_lane : (x : ℕ) → top 7 (lane 128 x) ≡ is_large x
top_of_lane x = go (leb 128 x)
  where
    go : (t : Bool) → top 7 (cond t 255 0) ≡ t
    go true = refl
    go false = refl

lanes_are : (xs : List ℕ) → lanes (length xs) xs ≡ continuation_bytes xs
lanes_are [] = refl
lanes_are (x ∷ xs) = rw (top_of_lane x) (ap (λ n. cond (is_large x) 1 0 + 2 * n) (lanes_are xs))

-- what the comparison of n bytes with 128 says
pub lanes_of : (n : ℕ) (xs : List ℕ) → n ≤ 64 → length xs ≡ n → lanes n xs % 2 ^ 64 ≡ continuation_bytes xs
lanes_of n xs few long =
    let most : List ℕ = replicate n 128 in
    let same : length most ≡ n = length-replicate {A = ℕ} n 128 in
    let small : lanes n xs % 2 ^ 64 ≡ lanes n xs = mask_l-mod _ 64
    (omega (arith, length-map (zip2 lane most xs) (top 7), length-zip2 lane most xs (same ∙ sym long), same)) in
    small ∙ ap (λ n. lanes n xs) (sym long) ∙ lanes_are xs

bit : (x : ℕ) → (◌≡◌ {A = ℕ} (cond (is_large x) 1 0) 0) ↔ (x < 128)
bit x = go (leb 128 x) refl
  where
    go : (t : Bool) → leb 128 x ≡ t → (◌≡◌ {A = ℕ} (cond t 1 0) 0) ↔ (x < 128)
    go true e = (λ q. absurd (omega arith), λ l. absurd (omega (arith, leb-true _ _ e)))
    go false e = (λ q. leb-false _ _ e, λ l. refl)

no_bit : (xs : List ℕ) → (continuation_bytes xs ≡ 0) ↔ All (λ b. b < 128) xs
no_bit [] = (λ e k d h. absurd (omega arith), λ h. refl)
no_bit (x ∷ xs) =
    let r = no_bit xs in
    let f = bit x in (
      λ e. elim [ zero ↦ (λ d h. f.0 (omega arith)) | suc k ↦ (λ d h. r.0 (omega arith) k d (omega arith)) ],
      λ h. omega (arith, f.1 (h 0 0 (omega arith)), r.1 (λ k d l. h (suc k) d (omega arith))),
    )

-- There is no bit exactly if all bytes are below 128.
pub none_large : (xs : List ℕ) → (eqb (continuation_bytes xs) 0 ≡ true) ↔ All (λ b. b < 128) xs
none_large xs = let n = no_bit xs in (λ t. n.0 (eqb-true _ _ t), λ h. eq-eqb _ _ (n.1 h))

-- Without a bit the run is of all bytes, otherwise it ends at the lowest.

pub run_of_all : (xs : List ℕ) → length xs ≡ 32 → continuation_bytes xs ≡ 0 → 32 ≡ small_prefix xs
run_of_all xs long none = sym long ∙ sym (leading_from_mask_l is_large xs none)

pub run_to_bit : (xs : List ℕ) → length xs ≡ 32 → continuation_bytes xs ≢ 0 → count_trailing_zeros 64 (continuation_bytes xs)
    ≡ small_prefix xs
run_to_bit xs long some = trailing_mask_l is_large 64 xs (omega (arith, long)) (omega (arith, some))

-- The run is of bytes below 128 that are there.
pub run_is_small : (xs : List ℕ) → All (λ b. b < 128) (take (small_prefix xs) xs) × (small_prefix xs ≤ length xs)
run_is_small [] = (λ k d h. absurd (omega arith), omega arith)
run_is_small (x ∷ xs) = go (leb 128 x) refl (run_is_small xs)
  where
    go : (t : Bool) → leb 128 x ≡ t → All (λ b. b < 128) (take (small_prefix xs) xs) × (small_prefix xs ≤ length xs)
        → All (λ b. b < 128) (take (cond (not t) (1 + small_prefix xs) 0) (x ∷ xs))
        × (cond (not t) (1 + small_prefix xs) 0 ≤ suc (length xs))
    go true e ih = (λ k d h. absurd (omega arith), omega arith)
    go false e ih = let z : 1 + small_prefix xs ≡ suc (small_prefix xs) = omega arith in
        rw z (elim [ zero ↦ (λ d h. leb-false _ _ e) | suc k ↦ (λ d h. ih.0 k d (omega arith)) ], omega (arith, ih.1))
