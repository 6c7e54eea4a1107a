-- The shortest bytes of numbers in LEB128. Core specification, Binary format, Values, Integers.
use Rattle.std.specs.Prelude.{ℕ, zero, suc, ◌+◌, ◌-◌, ◌/◌, ◌%◌, Bool, true, false, List, [], ◌∷◌, nat_lt}
use Rattle.std.specs.Prelude.{if◌then◌else◌, ℤ, pos, negsuc}

-- a septet, or for a negative number one with its bits flipped
abbrev pub septet : (flips : Bool) → ℕ → ℕ
septet false n = n
septet true n = 127 - n

-- the septets of a number, the lowest first, up to one below the limit, in at most one byte more than this
abbrev pub leb : (flips : Bool) (limit most : ℕ) → ℕ → List ℕ
leb flips limit zero n = septet flips n ∷ []
leb flips limit (suc most) n =
    if nat_lt n limit then septet flips n ∷ [] else
    (septet flips (n % 128) + 128) ∷ leb flips limit most (n / 128)

-- the septets of a number of at most 64 bits
unfoldable pub septets_of : (flips : Bool) (limit : ℕ) → ℕ → List ℕ
septets_of flips limit n = leb flips limit 9 n

-- the bound of the last septet of an unsigned number, and of a signed one, whose highest bit is the sign
abbrev pub unsigned_limit : ℕ
unsigned_limit = 128

abbrev pub signed_limit : ℕ
signed_limit = 64

-- | the shortest encoding of a number, unsigned or signed [`signed_bytes`] <Values, Integers>
-- the shortest encoding of an unsigned number
abbrev pub unsigned_bytes : ℕ → List ℕ
unsigned_bytes n = septets_of false unsigned_limit n

-- the shortest encoding of a signed number: a negative one has the septets of its complement, flipped
abbrev pub signed_bytes : ℤ → List ℕ
signed_bytes (pos n) = septets_of false signed_limit n
signed_bytes (negsuc n) = septets_of true signed_limit n

-- whether a number is negative, and its septets as a natural number
abbrev pub is_negative : ℤ → Bool
is_negative (pos n) = false
is_negative (negsuc n) = true

abbrev pub magnitude_of : ℤ → ℕ
magnitude_of (pos n) = n
magnitude_of (negsuc n) = n
