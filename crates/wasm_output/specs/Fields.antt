-- The text of an item's line, field by field.
use Rattle.std.specs.Prelude.{ℕ, ◌/◌, ◌%◌, Bool, true, false, not, List, [], ◌∷◌, ◌++◌, codes, decimal, length, take}
use Rattle.std.specs.Prelude.{slice_index, ◌||◌, nat_lt, nat_eq, if◌then◌else◌, Option, Some, None, ℤ}
use Rattle.std.specs.Fmt.{signed_decimal}
use Rattle.std.specs.List.{flat_map}
use Rattle.wasm_io.specs.Offsets.{offset_text}
use Rattle.wasm_io.specs.declared.digits.Base.{Base}

-- what a field may say
pub data Value : Type 0 where
  -- a number, and one with a sign
  number : ℕ → Value
  signed : ℤ → Value
  -- a text in quotes
  quoted : List ℕ → Value
  -- the word of a kind, or a type, as it is
  word : List ℕ → Value
  flag : Bool → Value
  -- no value
  nothing : Value
  -- from one offset to another
  range : (start end : ℕ) → Value
  -- bytes that are not text
  raw : List ℕ → Value

-- | a field of a line, and its text: a number, a text in quotes, a word, a range, raw bytes. A field that is `false`
--   or has no value has none [`field_text`, `value_text`, `is_default`]
-- a field with its name, or a word that has none
pub data Field : Type 0 where
  named : (name : List ℕ) → Value → Field
  alone : List ℕ → Field

-- two hexadecimal digits
abbrev pub hexadecimal : ℕ → List ℕ
hexadecimal byte =
    slice_index (codes "0123456789abcdef") (byte / 16) ∷ slice_index (codes "0123456789abcdef") (byte % 16) ∷ []

-- whether a byte of a text in quotes is written by its digits: a quote, a backslash, and all outside 32 to 126
abbrev pub is_escaped : ℕ → Bool
is_escaped byte = nat_lt byte 32 || nat_lt 126 byte || nat_eq byte 34 || nat_eq byte 92

abbrev pub quoted_byte : ℕ → List ℕ
quoted_byte byte = if is_escaped byte then 92 ∷ hexadecimal byte else byte ∷ []

abbrev pub quoted_text : List ℕ → List ℕ
quoted_text text = codes "\"" ++ (flat_map quoted_byte text ++ codes "\"")

abbrev pub flag_text : Bool → List ℕ
flag_text true = codes "true"
flag_text false = codes "false"

-- the mark after the first 16 bytes, if there are more
abbrev pub cut_mark : (count : ℕ) → List ℕ
cut_mark count = if nat_lt 16 count then codes ".." else []

-- a value, in a text with offsets in this base; raw bytes are their count and the first 16, with a mark if there are
-- more
abbrev pub value_text : Value → Base → List ℕ
value_text (number n) base = decimal n
value_text (signed z) base = signed_decimal z
value_text (quoted text) base = quoted_text text
value_text (word text) base = text
value_text (flag b) base = flag_text b
value_text nothing base = codes "none"
value_text (range start end) base = offset_text base start ++ (codes ".." ++ offset_text base end)
value_text (raw bytes) base = decimal (length bytes)
    ++ (codes ":" ++ (flat_map hexadecimal (take 16 bytes) ++ cut_mark (length bytes)))

-- what comes before the value of a field
abbrev pub field_start : (name : List ℕ) → List ℕ
field_start name = codes " " ++ (name ++ codes "=")

-- whether a value is the one that a field has if it is left out: `false` and no value
abbrev pub is_default : Value → Bool
is_default (flag b) = not b
is_default nothing = true
is_default other = false

-- a field whatever its value is
abbrev pub whole_field_text : (name : List ℕ) → Value → Base → List ℕ
whole_field_text name value base = codes " " ++ (name ++ (codes "=" ++ value_text value base))

abbrev pub field_text : Field → Base → List ℕ
field_text (named name value) base = if is_default value then [] else whole_field_text name value base
field_text (alone text) base = codes " " ++ text

-- a text with these fields after it, and with offsets in this base
abbrev pub with_fields : Base → (before : List ℕ) → List Field → List ℕ
with_fields base before [] = before
with_fields base before (f ∷ later) = with_fields base (before ++ field_text f base) later

-- ---- values

abbrev pub number_if_any : Option ℕ → Value
number_if_any (Some n) = number n
number_if_any None = nothing
