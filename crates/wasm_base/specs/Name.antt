-- Raw bytes, names and texts. Core specification, Binary format, Values, Bytes and Names.
use Rattle.std.specs.Prelude.{ℕ, ◌+◌, ◌-◌, ◌*◌, Bool, false, List, [], ◌∷◌, length, take, drop, slice_index, Option}
use Rattle.std.specs.Prelude.{Some, None, Ok, Err, nat_lt, if◌then◌else◌}
use Rattle.std.specs.Str.{is_utf8}
use Rattle.wasm_base.specs.FaultAt.{at_offset}
use Rattle.wasm_base.specs.Number.{Number, read, bad, short, number, unsigned_at}
use Rattle.wasm_base.specs.Outcome.{Outcome, ◌>>=◌}
use Rattle.wasm_base.specs.Window.{Window, Place, advanced, whole_window}
use Rattle.wasm_base.specs.declared.fault.Fault.{Fault}
use Rattle.wasm_base.specs.declared.fault.Fault.TheVariants.{UnexpectedEof, StringSize, MalformedUtf8, InvalidU7}
use Rattle.wasm_base.specs.declared.fault.NumberKind.TheVariants.{VarU32}

-- | raw bytes [`byte_at`, `u32_at`] <Values, Bytes>
-- n raw bytes; if some are missing, the fault is at their start
abbrev pub bytes_at : ℕ → Place → Outcome (List ℕ)
bytes_at n p = if nat_lt (length p.rest) n then Err (at_offset UnexpectedEof p.offset) else
    Ok (take n p.rest, advanced n p)

abbrev pub first_of : Place → List ℕ → Outcome ℕ
first_of p [] = Err (at_offset UnexpectedEof p.offset)
first_of p (b ∷ bs) = Ok (b, advanced 1 p)

-- a byte
abbrev pub byte_at : Place → Outcome ℕ
byte_at p = first_of p p.rest

-- | a byte below 128
unfoldable pub u7_at : Place → Outcome ℕ
u7_at p = do
  byte ← byte_at p
  if nat_lt byte.0 128 then Ok byte else Err (at_offset InvalidU7 (byte.1.offset - 1))

-- the next n bytes, which are not consumed
abbrev pub peeked_at : ℕ → Place → Outcome (List ℕ)
peeked_at n p = if nat_lt (length p.rest) n then Err (at_offset UnexpectedEof p.offset) else Ok (take n p.rest, p)

abbrev pub first_peeked : Place → List ℕ → Outcome ℕ
first_peeked p [] = Err (at_offset UnexpectedEof p.offset)
first_peeked p (b ∷ bs) = Ok (b, p)

-- the next byte, which is not consumed
abbrev pub peeked_byte_at : Place → Outcome ℕ
peeked_byte_at p = first_peeked p p.rest

-- the number of four bytes, the lowest first
abbrev pub of_four : List ℕ → ℕ
of_four bytes = slice_index bytes 0 + 256 * slice_index bytes 1 + 65536 * slice_index bytes 2 + 16777216 * slice_index
    bytes 3

-- a number of four bytes
unfoldable pub u32_at : Place → Outcome ℕ
u32_at p = do
  bytes ← bytes_at 4 p
  Ok (of_four bytes.0, bytes.1)

-- the most bytes of a name. A text has no such limit.
abbrev pub name_limit : ℕ
name_limit = 100000

-- what bytes say of the name or text that begins with them
pub data Name : Type 0 where
  -- it is this text, and consumes this many bytes with its size
  named : (text : List ℕ) (used : ℕ) → Name
  -- this is wrong, at the byte of this place
  refused : (fault : Fault) (place : ℕ) → Name

-- whether a size is above the limit, if there is one
abbrev pub is_above : Option ℕ → ℕ → Bool
is_above None size = false
is_above (Some limit) size = nat_lt limit size

-- `size` bytes of text, after a size field of `used` bytes
abbrev pub text_after : (bytes : List ℕ) (size used : ℕ) → Name
text_after bytes size used =
    if nat_lt (length (drop used bytes)) size then refused UnexpectedEof used else
    if is_utf8 (take size (drop used bytes)) then named (take size (drop used bytes)) (used + size) else
    refused MalformedUtf8 (used + size - 1)

abbrev pub after_size : Option ℕ → List ℕ → Number → Name
after_size limit bytes (bad fault i) = refused fault i
after_size limit bytes short = refused UnexpectedEof (length bytes)
after_size limit bytes (read size used) =
    if is_above limit size then refused StringSize (used - 1) else
    text_after bytes size used

-- | what bytes say of the name that begins with them: a size, within a limit if there is one, and as many bytes of
--   UTF-8 [`text_at`] <Values, Names>
-- what bytes say of the name that begins with them, where no bytes follow: a size of at most the limit, and that many
-- bytes of UTF-8
unfoldable pub name : Option ℕ → List ℕ → Name
name limit bytes = after_size limit bytes (number VarU32 bytes)

abbrev pub name_in_window : Place → Name → Outcome (List ℕ)
name_in_window p (named text used) = Ok (text, advanced used p)
name_in_window p (refused fault i) = Err (at_offset fault (p.offset + i))

-- reading a name of at most `limit` bytes, or a text
unfoldable pub text_at : Option ℕ → Place → Outcome (List ℕ)
text_at limit p = name_in_window p (name limit p.rest)

-- | a size and a window of as many bytes <Values, Integers>
unfoldable pub window_at : Place → Outcome Window
window_at p = do
  size ← unsigned_at VarU32 p
  bytes ← bytes_at size.0 size.1
  Ok (whole_window (record { features = p.features; offset = size.1.offset; rest = bytes.0 }), bytes.1)
