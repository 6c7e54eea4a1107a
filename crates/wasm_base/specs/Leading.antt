-- Bytes that say what follows them.
use Rattle.std.specs.Prelude.{ℕ, ◌-◌, ◌==◌, Bool, true, false, List, [], ◌∷◌, Option, Some, None, Ok, Err}
use Rattle.std.specs.Prelude.{nat_lt, if◌then◌else◌}
use Rattle.wasm_base.specs.FaultAt.{FaultAt}
use Rattle.wasm_base.specs.Name.{byte_at}
use Rattle.wasm_base.specs.Number.{unsigned_at}
use Rattle.wasm_base.specs.Outcome.{Outcome, ◌>>=◌}
use Rattle.wasm_base.specs.Window.{Place}
use Rattle.wasm_base.specs.declared.fault.Fault.TheVariants.{LeadingByte}
use Rattle.wasm_base.specs.declared.fault.Lead.{Lead}
use Rattle.wasm_base.specs.declared.fault.NumberKind.TheVariants.{VarU32}

-- the fault that nothing of this kind begins with this byte, which is at this offset
abbrev pub leading_byte : Lead → ℕ → ℕ → FaultAt
leading_byte lead byte offset = record { fault = LeadingByte lead; offset = offset; number = Some byte }

-- | what a table has for a byte; a byte that a table has something for, or the fault that it begins nothing of a
--   kind: its offset, and the byte as its number [`lookup_or`, `in_table`, `leading_byte`]
-- what a table has for a byte
abbrev pub lookup : {A : Type 0} → List (ℕ × A) → ℕ → Option A
lookup [] byte = None
lookup (row ∷ rows) byte = if byte == row.0 then Some row.1 else lookup rows byte

-- like `lookup`, with a default for every other byte
abbrev pub lookup_or : {A : Type 0} → A → List (ℕ × A) → ℕ → A
lookup_or other [] byte = other
lookup_or other (row ∷ rows) byte = if byte == row.0 then row.1 else lookup_or other rows byte

-- what a byte says that was read at an offset, or the fault that it says nothing
abbrev pub or_leading : {A : Type 0} → Lead → (byte offset : ℕ) → Option A → Place → Outcome A
or_leading lead byte offset (Some value) p = Ok (value, p)
or_leading lead byte offset None p = Err (leading_byte lead byte offset)

-- a byte, and what a table has for it
unfoldable pub in_table : {A : Type 0} → Lead → List (ℕ × A) → Place → Outcome A
in_table lead table p = do
  byte ← byte_at p
  or_leading lead byte.0 (byte.1.offset - 1) (lookup table byte.0) byte.1

-- | a flag byte: 0 for no, 1 for yes
abbrev pub flag_at : Lead → Place → Outcome Bool
flag_at lead = in_table lead ((0, false) ∷ (1, true) ∷ [])

-- | the flags of a segment, if they are at most a number
unfoldable pub flags_at : (most : ℕ) → Place → Outcome (Option ℕ)
flags_at most p = do
  flags ← unsigned_at VarU32 p
  if nat_lt most flags.0 then Ok (None, flags.1) else Ok (Some flags.0, flags.1)
