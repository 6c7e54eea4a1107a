-- Numbers in LEB128. Core specification, Binary format, Values, Integers.
use Rattle.std.specs.Prelude.{ℕ, suc, ◌+◌, ◌-◌, ◌*◌, ◌%◌, Bool, ◌||◌, List, [], ◌∷◌, length, take, slice_index, Option}
use Rattle.std.specs.Prelude.{Some, None, option_map, nat_lt, nat_le, Ok, Err, if◌then◌else◌}
use Rattle.wasm_base.specs.FaultAt.{at_offset}
use Rattle.wasm_base.specs.Outcome.{Outcome}
use Rattle.wasm_base.specs.Window.{Place, advanced}
use Rattle.wasm_base.specs.declared.fault.Fault.{Fault}
use Rattle.wasm_base.specs.declared.fault.Fault.TheVariants.{UnexpectedEof, NumberTooLong, NumberTooLarge}
use Rattle.wasm_base.specs.declared.fault.NumberKind.{NumberKind}
use Rattle.wasm_base.specs.declared.fault.NumberKind.TheVariants.{VarU32, VarI32, VarU64, VarI64, VarS33}

-- what bytes say of the number that begins with them
pub data Number : Type 0 where
  -- its septets have this sum, and it takes this many bytes
  read : (sum used : ℕ) → Number
  -- this is wrong, at the byte of this place
  bad : (fault : Fault) (place : ℕ) → Number
  -- the bytes end within it
  short : Number

-- the most bytes that a number of this kind takes
abbrev pub most_bytes : NumberKind → ℕ
most_bytes VarU32 = 5
most_bytes VarI32 = 5
most_bytes VarS33 = 5
most_bytes VarU64 = 10
most_bytes VarI64 = 10

-- | the width of a kind of number in bits; whether the kind is signed [`Widths.is_signed`] <Values, Integers>
-- how many bits its value has
abbrev pub bits_of : NumberKind → ℕ
bits_of VarU32 = 32
bits_of VarI32 = 32
bits_of VarS33 = 33
bits_of VarU64 = 64
bits_of VarI64 = 64

-- whether the last byte that may be taken leaves its unused bits 0, or for a signed kind like its sign bit
abbrev pub is_unused_right : NumberKind → ℕ → Bool
is_unused_right VarU32 b = nat_lt b 16
is_unused_right VarI32 b = nat_lt b 8 || nat_le 120 b
is_unused_right VarS33 b = nat_lt b 16 || nat_le 112 b
is_unused_right VarU64 b = nat_lt b 2
is_unused_right VarI64 b = nat_lt b 1 || nat_le 127 b

-- the place of the first byte below 128, which ends the number
abbrev pub last_place : List ℕ → Option ℕ
last_place [] = None
last_place (b ∷ bs) = if nat_lt b 128 then Some 0 else option_map suc (last_place bs)

-- the sum of these bytes' septets, the lowest first
abbrev pub septets : List ℕ → ℕ
septets [] = 0
septets (b ∷ bs) = b % 128 + 128 * septets bs

-- what the bytes say of a number whose last byte is at this place
abbrev pub ends_at : NumberKind → List ℕ → Option ℕ → Number
ends_at kind bytes None =
    if nat_lt (length bytes) (most_bytes kind) then short else bad (NumberTooLong kind) (most_bytes kind - 1)
ends_at kind bytes (Some i) =
    if nat_lt (suc i) (most_bytes kind) then read (septets (take (suc i) bytes)) (suc i) else
    if nat_lt (most_bytes kind) (suc i) then bad (NumberTooLong kind) (most_bytes kind - 1) else
    if is_unused_right kind (slice_index bytes i) then read (septets (take (suc i) bytes)) (suc i) else
    bad (NumberTooLarge kind) i

-- | what bytes say of the number of a kind that begins with them: read, wrong at a byte, or short, if the bytes end
--   first. Its seven-bit groups end at the first byte below 128, within the length of the kind <Values, Integers>
-- what bytes say of the number of this kind that begins with them
unfoldable pub number : NumberKind → List ℕ → Number
number kind bytes = ends_at kind bytes (last_place bytes)

-- The number at a place, in a window that ends with the place's rest: there a short one has a fault, where its
-- next byte would be.
abbrev pub in_window : Place → Number → Outcome ℕ
in_window p (read sum used) = Ok (sum, advanced used p)
in_window p (bad fault i) = Err (at_offset fault (p.offset + i))
in_window p short = Err (at_offset UnexpectedEof (p.offset + length p.rest))

-- | the number read in a window, unsigned <Values, Integers>
-- reading an unsigned number of this kind
unfoldable pub unsigned_at : NumberKind → Place → Outcome ℕ
unsigned_at kind p = in_window p (number kind p.rest)

-- | how many bytes reading a number consumes: those of the number, those up to the wrong one, or all; the place after
--   them; the place after a malformed id or size [`after_number`; `Subsections.after_refused`]
-- how many of these bytes reading a number takes: those of the number, those up to the wrong one, or all
abbrev pub bytes_read : List ℕ → Number → ℕ
bytes_read bytes (read sum used) = used
bytes_read bytes (bad fault i) = suc i
bytes_read bytes short = length bytes

-- the place after the bytes that reading a number of this kind takes, whatever they say
unfoldable pub after_number : NumberKind → Place → Place
after_number kind p = advanced (bytes_read p.rest (number kind p.rest)) p
