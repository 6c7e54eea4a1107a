-- The table of the bytes that are escaped.
use Rattle.wasm_output.proofs.Common.{◌≡◌, ℕ, zero, suc, ◌-◌, ◌<◌, Bool, true, false, ◌&&◌, get_or, nat_eq, refl, arith, if◌then◌else◌}
use Rattle.wasm_output.proofs.Common.{is_escaped}
use Rattle.std.proofs.Common.{T, eqb, eqb→eq, inl, inr, eq-zero-or-pos}
use Rattle.wasm_output.specs.declared.escapes.TheConstants.{ESCAPED}
use lib.Ieee.Fits.{and_l, and_r}

-- what the table has for a byte
abbrev mark : ℕ → ℕ
mark byte = if is_escaped byte then 120 else 45

-- whether the table is right below n
abbrev is_right : ℕ → Bool
is_right zero = true
is_right (suc n) = is_right n && eqb (get_or ESCAPED n 0) (mark n)

right_below : (n k : ℕ) → T (is_right n) → k < n → get_or ESCAPED k 0 ≡ mark k
right_below zero k t h = absurd (omega arith)
right_below (suc n) k t h =
    elim (eq-zero-or-pos (n - k)) [
      | inl z ↦
          let e : k ≡ n = omega arith in
          rw e (eqb→eq _ _ (and_r (is_right n) _ t))
      | inr z ↦ right_below n k (and_l _ _ t) (omega arith)
    ]

marks : (b : Bool) → nat_eq (if b then 120 else 45) 120 ≡ b
marks true = refl
marks false = refl

pub is_marked : (byte : ℕ) → byte < 256 → nat_eq (get_or ESCAPED byte 0) 120 ≡ is_escaped byte
is_marked byte h = rw (right_below 256 byte tt h) (marks (is_escaped byte))
