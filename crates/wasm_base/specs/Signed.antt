-- Signed numbers in LEB128. Core specification, Binary format, Values, Integers.
use Rattle.std.specs.Prelude.{ℕ, ◌-◌, ◌*◌, ◌^◌, Ok, nat_lt, if◌then◌else◌, ℤ, pos, ◌-ℤ◌, ◌≤ℤ◌, ◌<ℤ◌}
use Rattle.wasm_base.specs.Number.{unsigned_at}
use Rattle.wasm_base.specs.Outcome.{Outcome, ◌>>=◌}
use Rattle.wasm_base.specs.Window.{Place}
use Rattle.wasm_base.specs.declared.fault.NumberKind.{NumberKind}

-- | a signed number: its seven-bit groups, minus what all their bits can count if the highest bit of the last one is
--   set; which values fit a number of bits [`signed_at`, `FitsBits`] <Values, Integers>
-- the signed number whose `used` septets have this sum: the highest bit of its last septet is its sign
abbrev pub signed_value : (sum used : ℕ) → ℤ
signed_value sum used = if nat_lt (2 * sum) (2 ^ (7 * used)) then pos sum else pos sum -ℤ pos (2 ^ (7 * used))

-- reading a signed number of this kind: its septets, with a sign
unfoldable pub signed_at : NumberKind → Place → Outcome ℤ
signed_at kind p = do
  sum ← unsigned_at kind p
  Ok (signed_value sum.0 (sum.1.offset - p.offset), sum.1)

-- A signed number fits in this many bits.
abbrev pub FitsBits : ℕ → ℤ → Type 0
FitsBits bits n = ((pos 0 -ℤ pos (2 ^ (bits - 1))) ≤ℤ n) × (n <ℤ pos (2 ^ (bits - 1)))
