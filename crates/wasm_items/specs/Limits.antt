-- Limits of tables and memories, and their flags. Core specification, Binary format, Types, Limits. That memories and
-- tables may be shared is of the proposal for threads and that for shared-everything threads.
use Rattle.std.specs.Prelude.{ℕ, Bool, Option, Some, None, Ok, if◌then◌else◌}
use Rattle.wasm_base.specs.Bits.{has_bit}
use Rattle.wasm_base.specs.Features.{takes_wide_limits}
use Rattle.wasm_base.specs.Number.{unsigned_at}
use Rattle.wasm_base.specs.Outcome.{Outcome, ◌>>=◌}
use Rattle.wasm_base.specs.Window.{Place}
use Rattle.wasm_base.specs.declared.fault.NumberKind.TheVariants.{VarU32, VarU64}

-- | what the flags of limits say; one limit, of 64 bits with the feature of 64-bit memories; a minimum, and a maximum
--   if a flag says so [`is_shared`, `is_wide`, `has_page_size`, `limit_at`, `maximum_at`, `limits_at`] <Types,
--   Limits; threads>
-- whether a maximum is present
abbrev pub has_maximum : (flags : ℕ) → Bool
has_maximum flags = has_bit flags 0

-- whether a memory or table is shared
abbrev pub is_shared : (flags : ℕ) → Bool
is_shared flags = has_bit flags 1

-- whether its indices have 64 bits
abbrev pub is_wide : (flags : ℕ) → Bool
is_wide flags = has_bit flags 2

-- whether a memory's page size is present
abbrev pub has_page_size : (flags : ℕ) → Bool
has_page_size flags = has_bit flags 3

-- one limit: a u64 or a u32 as the features say, whatever the flags of the limits are
unfoldable pub limit_at : Place → Outcome ℕ
limit_at p = if takes_wide_limits p.features then unsigned_at VarU64 p else unsigned_at VarU32 p

-- a limit that is present
abbrev pub some_limit_at : Place → Outcome (Option ℕ)
some_limit_at p = do
  limit ← limit_at p
  Ok (Some limit.0, limit.1)

-- the maximum, if present
unfoldable pub maximum_at : (flags : ℕ) → Place → Outcome (Option ℕ)
maximum_at flags p = if has_maximum flags then some_limit_at p else Ok (None, p)

-- a minimum, and a maximum if there is one, after their flags
unfoldable pub limits_at : (flags : ℕ) → Place → Outcome (ℕ × Option ℕ)
limits_at flags p = do
  initial ← limit_at p
  maximum ← maximum_at flags initial.1
  Ok ((initial.0, maximum.0), maximum.1)
