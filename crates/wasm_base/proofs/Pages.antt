-- Sizes of pages, as the code finds them: by the bits that are set.
use Rattle.std.proofs.Common.{◌≡◌, ◌≤◌, ◌<◌, ◌+◌, ◌*◌, ◌/◌, ◌%◌, ◌^◌, ◌||◌, inl, inr, ℕ, zero, suc, true, false, sym, ◌∙◌, ap, arith}
use Rattle.std.proofs.Common.{nat_le}
use Rattle.std.specs.Int.{IsPowerOfTwo, is_power_of_two}
use Rattle.std.specs.Int.RustNames.{count_ones}
use Rattle.std.proofs.Math.Arith.{le_of_le-suc-ne}
use Rattle.std.proofs.Math.Nat.{pow-suc, pow-le-pow_right}
use Rattle.std.proofs.lemmas.Bool.{eqb-true, eq-eqb, false_from_ne_true, true≢false}
use Rattle.std.proofs.lemmas.Bool.Decides.{eqb_tells, leb_tells}
use Rattle.std.proofs.lemmas.Nat.{ones_cat, zero_from_ones, ones_le_self, pow_pos}
use lib.Count.{ones_step}
use Rattle.wasm_base.specs.Limits.{is_power_up_to, is_page_size}

-- a power of two has one bit
ones_of_power : (k : ℕ) → count_ones (2 ^ k) ≡ 1
unfolding count_ones
ones_of_power k = ap count_ones (omega arith) ∙ ones_cat k 1 0 (pow_pos k)

-- a number that has one bit is a power of two
power_from_ones : (bound n : ℕ) → n < 2 ^ bound → count_ones n ≡ 1 → IsPowerOfTwo n
power_from_ones zero n below one = let none : ⊥ = omega (arith, below, one, ones_le_self n) in absurd none
power_from_ones (suc bound) n below one =
    let step : count_ones n ≡ n % 2 + count_ones (n / 2) = ones_step n in
    let double : 2 ^ suc bound ≡ 2 ^ bound * 2 = pow-suc 2 bound in
    elim (eqb_tells (n % 2) 0) [
      | inl even ↦
          let half = power_from_ones bound (n / 2) (omega (arith, below, double)) (omega (arith, step, one, even.1)) in
          (suc half.0, omega (arith, half.1, even.1, pow-suc 2 half.0))
      | inr odd ↦
          let none : n / 2 ≡ 0 = zero_from_ones (n / 2) (omega (arith, step, one, odd.1)) in
          (0, omega (arith, none, odd.1))
    ]

power_up_to_says : (k n : ℕ) → is_power_up_to k n ≡ true → (j : ℕ) × ((j ≤ k) × (n ≡ 2 ^ j))
power_up_to_says zero n h = (0, (omega arith, eqb-true n 1 h))
power_up_to_says (suc k) n h = elim (eqb_tells n (2 ^ suc k)) [
  | inl is ↦ (suc k, (omega arith, is.1))
  | inr is_not ↦
      let less = power_up_to_says k n (ap (λ b. b || is_power_up_to k n) (sym is_not.0) ∙ h) in
      (less.0, (omega (arith, less.1.0), less.1.1))
]

power_up_to_holds : (k j n : ℕ) → j ≤ k → n ≡ 2 ^ j → is_power_up_to k n ≡ true
power_up_to_holds zero j n le is =
    let none : j ≡ 0 = omega (arith, le) in
    eq-eqb n 1 (is ∙ ap (λ i. 2 ^ i) none)
power_up_to_holds (suc k) j n le is = elim (eqb_tells n (2 ^ suc k)) [
  | inl equal ↦ ap (λ b. b || is_power_up_to k n) equal.0
  | inr apart ↦
      let less : j ≤ k = le_of_le-suc-ne le (λ same. apart.1 (is ∙ ap (λ i. 2 ^ i) same)) in
      ap (λ b. b || is_power_up_to k n) apart.0 ∙ power_up_to_holds k j n less is
]

-- an exponent is at most 16 where its power is at most 65536
exponent_below : (k : ℕ) → 2 ^ k ≤ 65536 → k ≤ 16
exponent_below k le = elim (leb_tells k 16) [
  | inl small ↦ small.1
  | inr large ↦
      let more : 2 ^ 17 ≤ 2 ^ k = pow-le-pow_right {n = 2} (omega arith) {i = 17} {j = k} (omega (arith, large.1)) in
      omega (arith, more, le)
]

pub page_size_says : (size : ℕ) → is_page_size size ≡ true → IsPowerOfTwo size × (size ≤ 65536)
page_size_says size h =
    let power = power_up_to_says 16 size h in
    let below : 2 ^ power.0 ≤ 2 ^ 16 = pow-le-pow_right {n = 2} (omega arith) {i = power.0} {j = 16} power.1.0 in
    ((power.0, power.1.1), omega (arith, power.1.1, below))

pub page_size_holds : (size : ℕ) → IsPowerOfTwo size → size ≤ 65536 → is_page_size size ≡ true
page_size_holds size power le =
    power_up_to_holds 16 power.0 size (exponent_below power.0 (omega (arith, power.1, le))) power.1

pub page_size_positive : (size : ℕ) → is_page_size size ≡ true → 0 < size
page_size_positive size h =
    let power = (page_size_says size h).0 in
    omega (arith, power.1, pow_pos power.0)

-- a number with one bit is a page size if it is small enough
pub page_size_of_one_bit : (size : ℕ) → size < 2 ^ 64 → is_power_of_two size ≡ true → nat_le size 65536 ≡ is_page_size size
page_size_of_one_bit size below one = elim (leb_tells size 65536) [
  | inl small ↦ small.0 ∙ sym (page_size_holds size (power_from_ones 64 size below (eqb-true (count_ones size) 1 one)) small.1)
  | inr large ↦
      large.0 ∙ sym (false_from_ne_true (is_page_size size) (λ h. omega (arith, large.1, (page_size_says size h).1)))
]

-- a number with more bits, or none, is not a page size
pub page_size_of_more_bits : (size : ℕ) → is_power_of_two size ≡ false → is_page_size size ≡ false
page_size_of_more_bits size more = false_from_ne_true (is_page_size size) (λ h.
    let power = (page_size_says size h).0 in
    true≢false (sym (eq-eqb (count_ones size) 1 (ap count_ones power.1 ∙ ones_of_power power.0)) ∙ more))
