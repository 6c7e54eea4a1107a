-- Bytes below 128, which are numbers in LEB128 of one byte.
use Rattle.std.specs.Prelude.{ℕ, Bool, List, map, nat_le, not}
use Rattle.std.specs.List.{prefix_len}
use lib.Lanes.{mask_l}

-- | a byte of 128 or more, after which a number continues; a bit for each such byte; how many bytes come before the
--   first one [`continuation_bytes`, `small_prefix`] <Values, Integers; this project>
-- whether a byte is one of those from 128, after which a number goes on
abbrev pub is_large : ℕ → Bool
is_large b = nat_le 128 b

-- a bit for each such byte, that of the first byte the lowest
abbrev pub continuation_bytes : List ℕ → ℕ
continuation_bytes bytes = mask_l (map is_large bytes)

-- how many bytes come before the first such one
abbrev pub small_prefix : List ℕ → ℕ
small_prefix bytes = prefix_len (λ b. not (is_large b)) bytes
