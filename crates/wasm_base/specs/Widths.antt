-- How wide numbers in LEB128 are, in bits. Core specification, Binary format, Values, Integers.
use Rattle.std.specs.Prelude.{◌≡◌, ◌↔◌, ℕ, ◌-◌, ◌*◌, ◌/◌, ◌%◌, ◌^◌, ◌<◌, ◌≤◌, Bool, true, false, IsTrue, if◌then◌else◌}
use Rattle.wasm_base.specs.Septets.{sum_bound}
use Rattle.wasm_base.specs.Number.{most_bytes, bits_of, is_unused_right}
use Rattle.wasm_base.specs.declared.fault.NumberKind.{NumberKind}
use Rattle.wasm_base.specs.declared.fault.NumberKind.TheVariants.{VarU32, VarI32, VarU64, VarI64, VarS33}

-- whether its value has a sign
abbrev pub is_signed : NumberKind → Bool
is_signed VarU32 = false
is_signed VarI32 = true
is_signed VarS33 = true
is_signed VarU64 = false
is_signed VarI64 = true

-- the bit of a number with this weight, as a power of two
abbrev pub bit : (k n : ℕ) → ℕ
bit k n = n / 2 ^ k % 2

-- how many of the value's bits are left for the last byte that a number may take: each other has seven
abbrev pub last_bits : NumberKind → ℕ
last_bits kind = bits_of kind - 7 * (most_bytes kind - 1)

-- what each unused bit of that byte has to be: 0, or for a signed kind the sign, which is the value's highest bit
abbrev pub unused_bit : NumberKind → ℕ → ℕ
unused_bit kind b = if is_signed kind then bit (last_bits kind - 1) b else 0

-- | at seven bits a byte, the longest number of a kind has just enough bytes for that width. The unused bits of the
--   last one are 0, or for a signed kind copies of the sign. The seven-bit groups add up to less than 2 to the width,
--   or for a signed kind to less than 2 to the number of all their bits [`ChecksUnused`, `BoundsSum`] <Values,
--   Integers>
-- A number takes as few bytes as have room for its value, seven bits each.
abbrev pub IsLongEnough : NumberKind → Type 0
IsLongEnough kind = (bits_of kind ≤ 7 * most_bytes kind) × (7 * (most_bytes kind - 1) < bits_of kind)

-- The unused bits of the last byte that a number may take are right exactly if each is as it has to be.
abbrev pub ChecksUnused : NumberKind → Type 0
ChecksUnused kind = (b : ℕ) → b < 128 → IsTrue (is_unused_right kind b)
    ↔ ((k : ℕ) → last_bits kind ≤ k → k < 7 → bit k b ≡ unused_bit kind b)

-- The septets of a number have the bits of its value, or for a signed kind all bits of its bytes.
abbrev pub BoundsSum : NumberKind → Type 0
BoundsSum kind = sum_bound kind ≡ 2 ^ (if is_signed kind then 7 * most_bytes kind else bits_of kind)
