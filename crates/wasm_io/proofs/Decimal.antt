-- The digits of a number, one and two at a time.
use Rattle.std.proofs.Common.{◌≡◌, ℕ, zero, suc, ◌+◌, ◌-◌, ◌*◌, ◌/◌, ◌%◌, ◌^◌, ◌<◌, ◌≤◌, Bool, true, ◌&&◌, T, eqb, ◌++◌}
use Rattle.std.proofs.Common.{eqb→eq, get_or, inl, inr, arith, eq-zero-or-pos, append_assoc}
use Rattle.std.proofs.lemmas.Fmt.{decimal_digit, decimal_step}
use Rattle.std.specs.Fmt.{decimal}
use Rattle.wasm_io.specs.Digits.{last_digits}
use Rattle.wasm_io.specs.declared.digits.TheConstants.{PAIRS}
use lib.Ieee.Fits.{and_l, and_r}

-- ---- what is written two digits at a time

pub decimal_two : (n : ℕ) → 10 ≤ n → n < 100 → decimal n ≡ last_digits 2 n
unfolding last_digits
decimal_two n lo hi =
    let same : n / 10 % 10 ≡ n / 10 = omega arith in
    rw (decimal_step n lo (omega arith), decimal_digit (n / 10) (omega arith), same)

-- a number whose digits but the last two are those of a hundredth
pub decimal_by_two : (n : ℕ) → 100 ≤ n → n < 2 ^ 64 → decimal n ≡ decimal (n / 100) ++ last_digits 2 (n % 100)
unfolding last_digits
decimal_by_two n lo hi =
    let a : n / 10 / 10 ≡ n / 100 = omega arith in
    let b : n / 10 % 10 ≡ n % 100 / 10 % 10 = omega arith in
    let c : n % 10 ≡ n % 100 % 10 = omega arith in
    rw (decimal_step n (omega arith) hi, decimal_step (n / 10) (omega arith) (omega arith), append_assoc, a, b, ← c)

-- the last digits of a remainder are those of the number
pub last_two : (n : ℕ) → last_digits 2 (n % 100) ≡ last_digits 2 n
unfolding last_digits
last_two n =
    let a : n % 100 / 10 % 10 ≡ n / 10 % 10 = omega arith in
    let b : n % 100 % 10 ≡ n % 10 = omega arith in
    rw (a, b)

pub four_by_two : (n : ℕ) → last_digits 4 n ≡ last_digits 2 (n / 100) ++ last_digits 2 (n % 100)
unfolding last_digits
four_by_two n =
    let a : n / 10 / 10 ≡ n / 100 = omega arith in
    let b : n / 10 % 10 ≡ n % 100 / 10 % 10 = omega arith in
    let c : n % 10 ≡ n % 100 % 10 = omega arith in
    rw (a, b, ← c)

pub last_four : (n : ℕ) → last_digits 4 (n % 10000) ≡ last_digits 4 n
last_four n =
    let a : n % 10000 / 100 ≡ n / 100 % 100 = omega arith in
    let b : n % 10000 % 100 ≡ n % 100 = omega arith in
    rw (four_by_two (n % 10000), four_by_two n, a, b, last_two (n / 100))

eight_by_last_four : (n : ℕ) → last_digits 8 n ≡ last_digits 4 (n / 10000) ++ last_digits 4 n
unfolding last_digits
eight_by_last_four n =
    let a : n / 10 / 10 / 10 / 10 ≡ n / 10000 = omega arith in
    rw a

pub eight_by_four : (n : ℕ) → last_digits 8 n ≡ last_digits 4 (n / 10000) ++ last_digits 4 (n % 10000)
eight_by_four n = rw (last_four n, eight_by_last_four n)

pub decimal_by_four : (n : ℕ) → 10000 ≤ n → n < 2 ^ 64 → decimal n ≡ decimal (n / 10000) ++ last_digits 4 (n % 10000)
decimal_by_four n lo hi =
    let a : n / 100 / 100 ≡ n / 10000 = omega arith in
    rw (
      last_four n,
      four_by_two n,
      decimal_by_two n (omega arith) hi,
      decimal_by_two (n / 100) (omega arith) (omega arith),
      a,
      last_two (n / 100),
      append_assoc,
    )

pub decimal_by_eight : (n : ℕ) → 100000000 ≤ n → n < 2 ^ 64 → decimal n ≡ decimal (n / 100000000) ++ last_digits 8 (n % 100000000)
decimal_by_eight n lo hi =
    let a : n / 10000 / 10000 ≡ n / 100000000 = omega arith in
    let b : n % 100000000 / 10000 ≡ n / 10000 % 10000 = omega arith in
    let c : n % 100000000 % 10000 ≡ n % 10000 = omega arith in
    rw (
      decimal_by_four n (omega arith) hi,
      decimal_by_four (n / 10000) (omega arith) (omega arith),
      a,
      eight_by_four (n % 100000000),
      b,
      c,
      append_assoc,
    )

-- the digits of n in the table
abbrev IsPair : ℕ → Type 0
IsPair n = (get_or PAIRS (2 * n) 0 ≡ 48 + n / 10) × (get_or PAIRS (2 * n + 1) 0 ≡ 48 + n % 10)

-- whether the table has the digits of each number below n
abbrev has_pairs : ℕ → Bool
has_pairs zero = true
has_pairs (suc n) = has_pairs n && (eqb (get_or PAIRS (2 * n) 0) (48 + n / 10) && eqb (get_or PAIRS (2 * n + 1) 0) (48 + n % 10))

pair_below : (n k : ℕ) → T (has_pairs n) → k < n → IsPair k
pair_below zero k t h = absurd (omega arith)
pair_below (suc n) k t h =
    elim (eq-zero-or-pos (n - k)) [
      | inl z ↦
          let e : k ≡ n = omega arith in
          let last = and_r (has_pairs n) _ t in
          rw e (eqb→eq _ _ (and_l _ _ last), eqb→eq _ _ (and_r _ _ last))
      | inr z ↦ pair_below n k (and_l _ _ t) (omega arith)
    ]

pub pair_at : (n : ℕ) → n < 100 → IsPair n
pair_at n h = pair_below 100 n tt h
