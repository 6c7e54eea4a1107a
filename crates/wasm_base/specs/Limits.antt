-- Pages of memories. Core specification, Structure, Types, Memory Types; that a page may have another size than 65536
-- bytes is a proposal.
use Rattle.std.specs.Prelude.{ℕ, zero, suc, ◌-◌, ◌/◌, ◌^◌, Bool, ◌==◌, ◌||◌, min}

-- whether a number is 2 to a power of at most k
abbrev pub is_power_up_to : (k n : ℕ) → Bool
is_power_up_to zero n = n == 1
is_power_up_to (suc k) n = n == 2 ^ suc k || is_power_up_to k n

-- | whether a page may have *n* bytes, and the most pages of a memory [`most_pages`] <Structure, Memory Types; a
--   page's size is a proposal's>
-- whether a page may have this size in bytes: a power of two of at most 65536
abbrev pub is_page_size : ℕ → Bool
is_page_size size = is_power_up_to 16 size

-- the most pages of this size that have addresses of this many bits, and a number of this many bits
abbrev pub most_pages : (bits size : ℕ) → ℕ
most_pages bits size = min (2 ^ bits / size) (2 ^ bits - 1)
