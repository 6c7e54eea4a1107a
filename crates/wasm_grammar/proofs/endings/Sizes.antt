-- A suffix that decides consists of bytes, at most 2^32 of them.
use Rattle.wasm_grammar.proofs.Common.{arith, ◌≡◌, List, [], ◌∷◌, refl, ℕ, length, ◌≤◌, None, ◌<◌, take, drop, ◌^◌, replicate, common_steps}
use Rattle.wasm_grammar.proofs.Common.{length-replicate, length-drop, All-nil, All, last_place-lt, Number, read, number, VarU32, Tile}
use Rattle.wasm_grammar.proofs.Common.{check, bytes, Grammar, u32_field, section_start, header_grammar, section_grammar, body_grammar}
use Rattle.wasm_grammar.proofs.Common.{grammar, ending_of_number, deciding_ending}
use Rattle.std.proofs.Common.{add-one}
use Rattle.std.proofs.lemmas.List.Elements.{All-replicate, All-drop}
use Rattle.wasm_base.proofs.Numbers.{sum_below}

-- ---- a number has 32 bits

read_below : (xs : List ℕ) (v k : ℕ) → number VarU32 xs ≡ read v k → v < 2 ^ 32
unfolding number
read_below xs v k r = grind (arith, common_steps, last_place-lt, sum_below, add-one)

-- ---- every grammar

-- no more than 2^32 bytes are raw at one place
abbrev Bounded : Grammar → Type 0
Bounded (check e next) = Bounded next
Bounded (u32_field o next) = (v k : ℕ) → v < 2 ^ 32 → Bounded (next v k)
Bounded (bytes n o next) = (n ≤ 2 ^ 32) × ((b : List ℕ) → Bounded (next b))
Bounded (section_start o e next) = (id : ℕ) → Bounded (next id)
Bounded _ = Unit {0}

-- what holds of a suffix that decides
pub record IsSmall (ending : List ℕ) : Type 0 where
  pub each : All (λ b. b < 256) ending
  pub bound : length ending ≤ 2 ^ 32

small_many : (n b : ℕ) → b < 256 → n ≤ 2 ^ 32 → IsSmall (replicate n b)
small_many n b l m = record { each = All-replicate (λ b. b < 256) n b l; bound = omega (arith, length-replicate n b, m) }

small_drop : (n : ℕ) (xs : List ℕ) → IsSmall xs → IsSmall (drop n xs)
small_drop n xs s = let b = s.bound in record { each = All-drop (λ b. b < 256) n xs s.each; bound = omega (arith, length-drop n xs, b) }

small_number : (xs : List ℕ) (next : ℕ → ℕ → Grammar) → ((v k : ℕ) → v < 2 ^ 32 → (zs : List ℕ) → IsSmall (deciding_ending (next v k) zs))
    → (n : Number) → number VarU32 xs ≡ n → IsSmall (ending_of_number n (λ v k. deciding_ending (next v k) (drop k xs)))
small_number xs next ih n e = grind (arith, read_below)

small_ending : (g : Grammar) → Bounded g → (xs : List ℕ) → IsSmall (deciding_ending g xs)
unfolding deciding_ending
small_ending (check None next) b xs = let s : IsSmall (deciding_ending next xs) = small_ending next b xs in s
small_ending (u32_field o next) b xs = small_number xs next (λ v k l zs. small_ending (next v k) (b v k l) zs) (number VarU32 xs) refl
small_ending (bytes n o next) b xs = grind (arith, small_ending (next (take n xs)) (b.1 (take n xs)) (drop n xs), small_many)
small_ending (section_start o e next) b [] = grind arith
small_ending (section_start o e next) b (id ∷ xs) = grind (arith, small_ending (next id) (b id) xs, small_drop)
small_ending _ b xs = grind (arith, All-nil)

-- ---- the grammars of a stream

pub ending_is_small : (start : ℕ) (ts : List Tile) (xs : List ℕ) → IsSmall (deciding_ending (grammar start ts) xs)
unfolding section_grammar header_grammar body_grammar
ending_is_small start ts xs = small_ending (grammar start ts) (grind arith) xs
