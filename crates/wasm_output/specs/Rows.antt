-- Rows of bytes that are shown one by one.
use Rattle.std.specs.Prelude.{◌≡◌, ℕ, ◌<◌, ◌≤◌, List, length, take}

-- A row has this many bytes, the first of those that are to be shown.
pub record BeginsWithRow (bytes : List ℕ) (count : ℕ) (unshown : List ℕ) : Type 0 where
  pub some : 0 < count
  pub within : count ≤ length unshown
  pub row : bytes ≡ take count unshown
