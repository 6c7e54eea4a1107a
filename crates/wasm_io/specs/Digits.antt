-- The digits of a number, of which a fixed number is written.
use Rattle.std.specs.Prelude.{ℕ, zero, suc, ◌+◌, ◌/◌, ◌%◌, List, [], ◌∷◌, ◌++◌}

-- the last `count` digits of a number in decimal, padded with zeros
unfoldable pub last_digits : (count : ℕ) → ℕ → List ℕ
last_digits zero n = []
last_digits (suc count) n = last_digits count (n / 10) ++ (48 + n % 10) ∷ []
