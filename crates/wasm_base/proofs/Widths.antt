-- The bits of numbers in LEB128, byte by byte.
use Rattle.std.proofs.Common.{◌≡◌, ℕ, zero, suc, ◌<◌, ◌≤◌, Bool, true, false, ◌&&◌, ◌||◌, nat_eq, nat_lt, refl, sym, ◌∙◌, arith, eqb-true}
use Rattle.std.proofs.Common.{eq-eqb, le-ltb, ltb-false}
use Rattle.std.proofs.lemmas.Bool.{eqb-false}
use Rattle.wasm_base.specs.Number.{is_unused_right}
use Rattle.wasm_base.specs.Widths.{bit, last_bits, unused_bit, ChecksUnused}
use Rattle.wasm_base.specs.declared.fault.NumberKind.{NumberKind}
use Rattle.wasm_base.specs.declared.fault.NumberKind.TheVariants.{VarU32, VarI32, VarU64, VarI64, VarS33}

-- whether this is so of each number below n
abbrev all_below : ℕ → (ℕ → Bool) → Bool
all_below zero f = true
all_below (suc n) f = f n && all_below n f

both : {s t : Bool} → (s && t) ≡ true → (s ≡ true) × (t ≡ true)
both {s = true} {t = t} h = (refl, h)
both {s = false} {t = t} h = cc

-- a number below another, or the one before it
below_or_last : (n k : ℕ) → k < suc n → (f : ℕ → Bool) → f n ≡ true → (k < n → f k ≡ true) → f k ≡ true
below_or_last n k lt f last before = by (nat_eq k n) refl
  where
    by : (b : Bool) → nat_eq k n ≡ b → f k ≡ true
    by true e = let z : k ≡ n = eqb-true k n e in rw z last
    by false e = before (omega (arith, lt, eqb-false k n e))

all_at : (n : ℕ) (f : ℕ → Bool) → all_below n f ≡ true → (k : ℕ) → k < n → f k ≡ true
all_at zero f h k lt = absurd (omega (arith, lt))
all_at (suc n) f h k lt = let (last, rest) = both h in below_or_last n k lt f last (all_at n f rest k)

all_from : (n : ℕ) (f : ℕ → Bool) → ((k : ℕ) → k < n → f k ≡ true) → all_below n f ≡ true
all_from zero f h = refl
all_from (suc n) f h = rw (h n (omega arith), all_from n f (λ k lt. h k (omega (arith, lt)))) refl

-- whether two truths are one
abbrev same : Bool → Bool → Bool
same true c = c
same false true = false
same false false = true

same_is : (b c : Bool) → same b c ≡ true → b ≡ c
same_is true true h = refl
same_is true false h = cc
same_is false true h = cc
same_is false false h = refl

-- whether a bit of the last byte is one that is used, or right
abbrev bit_fits : NumberKind → ℕ → ℕ → Bool
bit_fits kind b k = nat_lt k (last_bits kind) || nat_eq (bit k b) (unused_bit kind b)

or_right : (s t : Bool) → s ≡ false → (s || t) ≡ true → t ≡ true
or_right true t e h = cc
or_right false t e h = h

or_by : (s t : Bool) → (s ≡ false → t ≡ true) → (s || t) ≡ true
or_by true t h = refl
or_by false t h = h refl

unused_of : (kind : NumberKind) (b : ℕ) → all_below 7 (bit_fits kind b) ≡ true → (k : ℕ) → last_bits kind ≤ k → k < 7 → bit k b
    ≡ unused_bit kind b
unused_of kind b h k from lt =
    eqb-true (bit k b) (unused_bit kind b) (or_right (nat_lt k (last_bits kind)) (nat_eq (bit k b) (unused_bit kind b))
    (le-ltb k (last_bits kind) from) (all_at 7 (bit_fits kind b) h k lt))

unused_from : (kind : NumberKind) (b : ℕ) → ((k : ℕ) → last_bits kind ≤ k → k < 7 → bit k b ≡ unused_bit kind b)
    → all_below 7 (bit_fits kind b) ≡ true
unused_from kind b h = all_from 7 (bit_fits kind b) (λ k lt. or_by (nat_lt k (last_bits kind)) (nat_eq (bit k b) (unused_bit kind b))
    (λ e. eq-eqb (bit k b) (unused_bit kind b) (h k (ltb-false k (last_bits kind) e) lt)))

-- whether the bits of each byte below 128 are as its test says
abbrev each_byte : NumberKind → Bool
each_byte kind = all_below 128 (λ b. same (is_unused_right kind b) (all_below 7 (bit_fits kind b)))

by_bytes : (kind : NumberKind) → each_byte kind ≡ true → ChecksUnused kind
by_bytes kind h b lt =
    let e : is_unused_right kind b ≡ all_below 7 (bit_fits kind b) =
    same_is (is_unused_right kind b) (all_below 7 (bit_fits kind b))
    (all_at 128 (λ b. same (is_unused_right kind b) (all_below 7 (bit_fits kind b))) h b lt) in
    (λ right. unused_of kind b (sym e ∙ right), λ bits. e ∙ unused_from kind b bits)

pub checks_unused : (kind : NumberKind) → ChecksUnused kind
checks_unused VarU32 = by_bytes VarU32 refl
checks_unused VarI32 = by_bytes VarI32 refl
checks_unused VarS33 = by_bytes VarS33 refl
checks_unused VarU64 = by_bytes VarU64 refl
checks_unused VarI64 = by_bytes VarI64 refl
