-- Bits of flags.
use Rattle.std.specs.Prelude.{ℕ, ◌^◌, ◌==◌, Bool}
use Rattle.std.specs.Int.RustNames.{bit_and}

-- whether a flag, a power of two, is set
abbrev pub has_flag : (flags flag : ℕ) → Bool
has_flag flags flag = bit_and flags flag == flag

-- | whether a flag bit is set
-- whether a bit of flags is set, where the lowest is bit 0
abbrev pub has_bit : (flags bit : ℕ) → Bool
has_bit flags bit = has_flag flags (2 ^ bit)
