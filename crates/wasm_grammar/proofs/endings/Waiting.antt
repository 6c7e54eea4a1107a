-- Laws of bytes that don't decide yet what is there.
use Rattle.wasm_grammar.proofs.Common.{arith, ◌≡◌, Bool, cond, List, [], ◌∷◌, ◌++◌, refl, ℕ, ◌+◌, length, ◌≤◌, None, ◌<◌, ◌-◌, take, drop}
use Rattle.wasm_grammar.proofs.Common.{nat_le, length-append, leb-true, take-append-le, drop-append-le, length-drop, number-used}
use Rattle.wasm_grammar.proofs.Common.{number-more, magic, agree, Number, number, VarU32, Tile, tile, check, bytes, Grammar, u32_field}
use Rattle.wasm_grammar.proofs.Common.{section_start, verdict, enough, wants, later, later_number, waiting}
use Rattle.wasm_base.proofs.NumberLaws.{number-short}
use Rattle.wasm_grammar.specs.Waiting.{Waiting}
use Rattle.wasm_grammar.proofs.parts.Verdicts.{agree_same, agree-more, Guarded, Cut, verdict-cut}

-- ---- bytes that suffice still do, whatever follows

wait_number : (xs ys : List ℕ) (next : ℕ → ℕ → Grammar)
    → ((v k : ℕ) (zs : List ℕ) → waiting (next v k) zs ≡ enough → waiting (next v k) (zs ++ ys) ≡ enough)
    → (n : Number) → number VarU32 xs ≡ n → later_number n (λ v k. waiting (next v k) (drop k xs)) ≡ enough
    → later_number (number VarU32 (xs ++ ys)) (λ v k. waiting (next v k) (drop k (xs ++ ys))) ≡ enough
wait_number xs ys next v k zs n = grind (arith, number-used, number-more, drop-append-le)

wait_bytes : (count : ℕ) (xs ys : List ℕ) (next : List ℕ → Grammar)
    → ((b zs : List ℕ) → waiting (next b) zs ≡ enough → waiting (next b) (zs ++ ys) ≡ enough)
    → (t : Bool) → nat_le count (length xs) ≡ t
    → cond t (later count (waiting (next (take count xs)) (drop count xs))) (wants count (count - length xs)) ≡ enough
    → cond (nat_le count (length (xs ++ ys))) (later count (waiting (next (take count (xs ++ ys))) (drop count (xs ++ ys))))
    (wants count (count - length (xs ++ ys))) ≡ enough
wait_bytes count xs ys next ih t e w = grind (arith, leb-true, length-append, take-append-le, drop-append-le)

wait_start : (id : ℕ) (xs ys : List ℕ) (next : ℕ → Grammar)
    → ((zs : List ℕ) → waiting (next id) zs ≡ enough → waiting (next id) (zs ++ ys) ≡ enough)
    → (a l : Bool) → agree (id ∷ xs) magic ≡ a → nat_le 4 (length (id ∷ xs)) ≡ l
    → cond a (cond l enough (wants 4 (4 - length (id ∷ xs)))) (later 1 (waiting (next id) xs)) ≡ enough
    → cond (agree (id ∷ (xs ++ ys)) magic) (cond (nat_le 4 (length (id ∷ (xs ++ ys)))) enough (wants 4 (4 - length (id ∷ (xs ++ ys)))))
    (later 1 (waiting (next id) (xs ++ ys))) ≡ enough
wait_start id xs ys next ih a l e f w = grind (arith, leb-true, length-append, agree_same, agree-more)

pub waiting-more : (g : Grammar) (xs ys : List ℕ) → waiting g xs ≡ enough → waiting g (xs ++ ys) ≡ enough
unfolding waiting
waiting-more (check None next) xs ys w = waiting-more next xs ys w
waiting-more (u32_field offset next) xs ys w =
    wait_number xs ys next (λ v k zs. waiting-more (next v k) zs ys) (number VarU32 xs) refl w
waiting-more (bytes count offset next) xs ys w =
    wait_bytes count xs ys next (λ b zs. waiting-more (next b) zs ys) (nat_le count (length xs)) refl w
waiting-more (section_start offset e next) [] ys w = cc
waiting-more (section_start offset e next) (id ∷ xs) ys w =
    wait_start id xs ys next (λ zs. waiting-more (next id) zs ys) (agree (id ∷ xs) magic) (nat_le 4 (length (id ∷ xs))) refl refl w
waiting-more _ xs ys w = refl

-- where a tile is, bytes suffice
pub tile_decided : (g : Grammar) → Guarded g → (xs : List ℕ) (t : Tile) → verdict g xs ≡ tile t → waiting g xs ≡ enough
tile_decided g gd xs t w =
    let c : Cut g xs t = verdict-cut g gd xs t w in
    grind (arith, waiting-more)

-- ---- where bytes don't suffice, there are fewer than are needed, and at least one more is requested

pub record Asks (xs : List ℕ) (need hint : ℕ) : Type 0 where
  pub above : length xs < need
  pub some : 1 ≤ hint

pub later-wants : (k : ℕ) (w : Waiting) (need hint : ℕ) → later k w ≡ wants need hint → (n : ℕ) × (w ≡ wants n hint) × (need ≡ k + n)
later-wants k w need hint e = grind arith

ask_number : (xs : List ℕ) (next : ℕ → ℕ → Grammar) (need hint : ℕ)
    → ((v k : ℕ) (zs : List ℕ) (n : ℕ) → waiting (next v k) zs ≡ wants n hint → Asks zs n hint)
    → (n : Number) → number VarU32 xs ≡ n → later_number n (λ v k. waiting (next v k) (drop k xs)) ≡ wants need hint → Asks xs need hint
ask_number xs next need hint ih n e w = grind (arith, number-used, later-wants, length-drop, number-short)

ask_bytes : (count : ℕ) (xs : List ℕ) (next : List ℕ → Grammar) (need hint : ℕ)
    → ((b zs : List ℕ) (n : ℕ) → waiting (next b) zs ≡ wants n hint → Asks zs n hint)
    → (t : Bool) → nat_le count (length xs) ≡ t
    → cond t (later count (waiting (next (take count xs)) (drop count xs))) (wants count (count - length xs)) ≡ wants need hint
    → Asks xs need hint
ask_bytes count xs next need hint ih t e w = grind (arith, later-wants, leb-true, length-drop)

ask_start : (id : ℕ) (xs : List ℕ) (next : ℕ → Grammar) (need hint : ℕ)
    → ((zs : List ℕ) (n : ℕ) → waiting (next id) zs ≡ wants n hint → Asks zs n hint)
    → (a l : Bool) → nat_le 4 (length (id ∷ xs)) ≡ l
    → cond a (cond l enough (wants 4 (4 - length (id ∷ xs)))) (later 1 (waiting (next id) xs)) ≡ wants need hint → Asks (id ∷ xs) need hint
ask_start id xs next need hint zs n a l w = grind arith

pub waiting-asks : (g : Grammar) (xs : List ℕ) (need hint : ℕ) → waiting g xs ≡ wants need hint → Asks xs need hint
unfolding waiting
waiting-asks (check None next) xs need hint w = grind (arith, waiting-asks next xs need hint w)
waiting-asks (u32_field offset next) xs need hint w = ask_number xs next need hint (λ v k zs n. waiting-asks (next v k) zs n hint)
    (number VarU32 xs) refl w
waiting-asks (bytes count offset next) xs need hint w = ask_bytes count xs next need hint (λ b zs n. waiting-asks (next b) zs n hint)
    (nat_le count (length xs)) refl w
waiting-asks (section_start offset e next) [] need hint w = grind arith
waiting-asks (section_start offset e next) (id ∷ xs) need hint w =
    ask_start id xs next need hint (λ zs n. waiting-asks (next id) zs n hint) (agree (id ∷ xs) magic) (nat_le 4 (length (id ∷ xs))) refl w
waiting-asks _ xs need hint w = cc
