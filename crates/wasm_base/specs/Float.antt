-- Floats, as their bits. Core specification, Binary format, Values, Floating-Point.
use Rattle.std.specs.Prelude.{ℕ, ◌+◌, ◌*◌, ◌^◌, take, drop, Ok}
use Rattle.wasm_base.specs.Name.{bytes_at, of_four}
use Rattle.wasm_base.specs.Outcome.{Outcome, ◌>>=◌}
use Rattle.wasm_base.specs.Window.{Place}
use Rattle.wasm_base.specs.declared.float.Ieee32.{Ieee32}
use Rattle.wasm_base.specs.declared.float.Ieee64.{Ieee64}

-- | a float as its bits: four bytes, or eight, lowest first [`bits_of_64`, `of_bits_32`, `of_bits_64`, `u64_at`]
--   <Values, Floating-Point>
-- the bits of a float of 32 bits
abbrev pub bits_of_32 : Ieee32 → ℕ
bits_of_32 float = float.0

-- the bits of a float of 64 bits
abbrev pub bits_of_64 : Ieee64 → ℕ
bits_of_64 float = float.0

-- a number of eight bytes, the lowest first
unfoldable pub u64_at : Place → Outcome ℕ
u64_at p = do
  bytes ← bytes_at 8 p
  Ok (of_four (take 4 bytes.0) + 2 ^ 32 * of_four (drop 4 bytes.0), bytes.1)

-- the floats that have these bits
abbrev pub of_bits_32 : ℕ → Ieee32
of_bits_32 bits = record { 0 = bits }

abbrev pub of_bits_64 : ℕ → Ieee64
of_bits_64 bits = record { 0 = bits }
