-- Bytes are sections in one way.
use Rattle.wasm_grammar.proofs.Common.{arith, ◌≡◌, List, [], ◌∷◌, ◌++◌, refl, ap, ℕ, length, sym, ◌∙◌, append_assoc, take_at, drop_at}
use Rattle.wasm_grammar.proofs.Common.{All-head, All-tail, All, flat_map, read, number, VarU32, IsNumber, SectionFrame, Sized, sized_bytes}
use Rattle.wasm_grammar.proofs.Common.{IsSized, frame_bytes}
use Rattle.wasm_grammar.proofs.accepted.Tiles.{number_on}

-- prefixes of one length are one
pub prefixes_same : (xs ys us vs : List ℕ) → length xs ≡ length ys → xs ++ us ≡ ys ++ vs → (xs ≡ ys) × (us ≡ vs)
prefixes_same xs ys us vs l e = (
  sym (take_at xs us (length xs) refl) ∙ (grind (arith, take_at)),
  sym (drop_at xs us (length xs) refl) ∙ (grind (arith, drop_at)),
)

-- numbers that begin the same bytes are one
pub numbers_same : (xs ys us vs : List ℕ) (m n : ℕ) → IsNumber xs m → IsNumber ys n → xs ++ us ≡ ys ++ vs → (m ≡ n)
    × (length xs ≡ length ys)
numbers_same xs ys us vs m n p q e =
    let z : read m (length xs) ≡ read n (length ys) = sym (number_on xs us m p) ∙ (ap (number VarU32) e ∙ number_on ys vs n q) in
    (cc, cc)

-- bytes after their length are
pub sized_same : (s t : Sized) (us vs : List ℕ) → IsSized s → IsSized t → sized_bytes s ++ us ≡ sized_bytes t ++ vs → (s ≡ t) × (us ≡ vs)
sized_same s t us vs p q e = grind (arith, append_assoc, numbers_same, prefixes_same)

-- sections are, of the same bytes
pub frames_same : (fs gs : List SectionFrame) → All (λ f. IsSized f.sized) fs → All (λ f. IsSized f.sized) gs → flat_map frame_bytes fs
    ≡ flat_map frame_bytes gs → fs ≡ gs
frames_same [] [] a b e = refl
frames_same (f ∷ fs) (g ∷ gs) a b e =
    let i : f.id ≡ g.id = cc in
    let q : ((f.sized ≡ g.sized) × (flat_map frame_bytes fs ≡ flat_map frame_bytes gs)) =
    grind (arith, sized_same, All-head) in
    let h : f ≡ g = grind arith in
    let t : fs ≡ gs = frames_same fs gs (All-tail (λ x. IsSized x.sized) f fs a) (All-tail (λ x. IsSized x.sized) g gs b) q.1 in
    cc
frames_same _ _ a b e = cc
