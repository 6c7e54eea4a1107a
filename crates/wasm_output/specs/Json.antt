-- Lines of JSON, each of which is one object. RFC 8259 (The JavaScript Object Notation Data Interchange Format),
-- sections 4 to 7; without blanks between tokens, and without fractions and exponents. Bytes of 128 and more are plain.
use Rattle.std.specs.Prelude.{◌≡◌, ℕ, zero, suc, Bool, true, false, List, [], ◌∷◌, ◌++◌, codes, nat_eq, nat_lt, ◌&&◌}
use Rattle.std.specs.Prelude.{◌||◌, decimal}
use Rattle.std.specs.Prelude.{if◌then◌else◌}
use Rattle.wasm_output.specs.Fields.{hexadecimal}
use Rattle.wasm_output.specs.Numbers.{word_of}
use Rattle.wasm_output.specs.declared.numbers.Space.{Space}
use Rattle.wasm_output.specs.declared.objects.Spot.{Spot}
use Rattle.wasm_output.specs.declared.objects.Spot.TheVariants.{Outside, Ended, InName, AtValue, InText}

-- what a bracket begins
pub data Bracket : Type 0 where
  object : Bracket
  array : Bracket

-- what may follow
pub data Place : Type 0 where
  -- at the start of a line its object, and after that the line feed
  line_start : Place
  line_end : Place
  -- the name of a member, which is an object's first one if it has any, or another one; and what comes after a name
  first_name : Place
  name : Place
  colon : Place
  -- a value, which is an array's first one if it has any, or another one
  first_value : Place
  value : Place
  -- more of a string, which is a name or a value; the rest of an escape; and the rest of its hexadecimal digits, after
  -- this one
  string : (is_name : Bool) → Place
  escape : (is_name : Bool) → Place
  digits_of_escape : (is_name : Bool) → (later : ℕ) → Place
  -- the first digit of a number below 0; nothing more of a number, which is 0; and more digits
  after_minus : Place
  after_zero : Place
  digits : Place
  -- the rest of `true`, `false` or `null`
  word : List ℕ → Place
  -- after a value
  ended : Place
  -- it is no such text
  wrong : Place

-- what may follow, and the brackets that are open, the inner ones first
pub record State : Type 0 where
  pub place : Place
  pub inside : List Bracket

abbrev pub here : Place → List Bracket → State
here place inside = record { place = place; inside = inside }

-- where a line begins
abbrev pub start : State
start = here line_start []

abbrev pub is_digit : ℕ → Bool
is_digit b = nat_lt 47 b && nat_lt b 58

abbrev pub is_hexadecimal : ℕ → Bool
is_hexadecimal b = is_digit b || (nat_lt 64 b && nat_lt b 71) || (nat_lt 96 b && nat_lt b 103)

-- whether a byte after a backslash is an escape on its own: `"`, `\`, `/`, `b`, `f`, `n`, `r` or `t`
abbrev pub is_escape : ℕ → Bool
is_escape b = nat_eq b 34 || nat_eq b 92 || nat_eq b 47 || nat_eq b 98 || nat_eq b 102 || nat_eq b 110 || nat_eq b 114
    || nat_eq b 116

-- after an inner bracket was closed
abbrev pub closed : (outer : List Bracket) → State
closed [] = here line_end []
closed (b ∷ outer) = here ended (b ∷ outer)

abbrev pub close : List Bracket → State
close [] = here wrong []
close (b ∷ outer) = closed outer

abbrev pub after_value : List Bracket → ℕ → State
after_value [] b = here wrong []
after_value (object ∷ outer) b =
    if nat_eq b 44 then here name (object ∷ outer) else if nat_eq b 125 then closed outer else here wrong []
after_value (array ∷ outer) b =
    if nat_eq b 44 then here value (array ∷ outer) else if nat_eq b 93 then closed outer else here wrong []

abbrev pub begins_value : List Bracket → ℕ → State
begins_value inside b =
    if nat_eq b 34 then here (string false) inside
    else if nat_eq b 123 then here first_name (object ∷ inside)
    else if nat_eq b 91 then here first_value (array ∷ inside)
    else if nat_eq b 45 then here after_minus inside
    else if nat_eq b 48 then here after_zero inside
    else if is_digit b then here digits inside
    else if nat_eq b 116 then here (word (codes "rue")) inside
    else if nat_eq b 102 then here (word (codes "alse")) inside
    else if nat_eq b 110 then here (word (codes "ull")) inside
    else here wrong []

-- after the quote that ends a string
abbrev pub after_string : (is_name : Bool) → Place
after_string true = colon
after_string false = ended

abbrev pub after_digit : (is_name : Bool) → (later : ℕ) → Place
after_digit is_name zero = string is_name
after_digit is_name (suc later) = digits_of_escape is_name later

-- after this byte of a word
abbrev pub after_letter : List ℕ → List Bracket → ℕ → State
after_letter [] inside b = here wrong []
after_letter (c ∷ []) inside b = if nat_eq b c then here ended inside else here wrong []
after_letter (c ∷ (d ∷ more)) inside b = if nat_eq b c then here (word (d ∷ more)) inside else here wrong []

-- what may follow this byte
abbrev pub after_byte : Place → List Bracket → ℕ → State
after_byte line_start inside b = if nat_eq b 123 then here first_name (object ∷ inside) else here wrong []
after_byte line_end inside b = if nat_eq b 10 then here line_start inside else here wrong []
after_byte first_name inside b =
    if nat_eq b 34 then here (string true) inside else if nat_eq b 125 then close inside else here wrong []
after_byte name inside b = if nat_eq b 34 then here (string true) inside else here wrong []
after_byte colon inside b = if nat_eq b 58 then here value inside else here wrong []
after_byte first_value inside b = if nat_eq b 93 then close inside else begins_value inside b
after_byte value inside b = begins_value inside b
after_byte (string is_name) inside b =
    if nat_eq b 34 then here (after_string is_name) inside
    else if nat_eq b 92 then here (escape is_name) inside
    else if nat_lt b 32 then here wrong []
    else here (string is_name) inside
after_byte (escape is_name) inside b =
    if nat_eq b 117 then here (digits_of_escape is_name 3) inside
    else if is_escape b then here (string is_name) inside
    else here wrong []
after_byte (digits_of_escape is_name later) inside b =
    if is_hexadecimal b then here (after_digit is_name later) inside else here wrong []
after_byte after_minus inside b =
    if nat_eq b 48 then here after_zero inside else if is_digit b then here digits inside else here wrong []
after_byte after_zero inside b = after_value inside b
after_byte digits inside b = if is_digit b then here digits inside else after_value inside b
after_byte (word rest) inside b = after_letter rest inside b
after_byte ended inside b = after_value inside b
after_byte wrong inside b = here wrong []

-- what may follow these bytes
abbrev pub after_all : State → List ℕ → State
after_all s [] = s
after_all s (b ∷ bytes) = after_all (after_byte s.place s.inside b) bytes

-- | a text that is made of lines of JSON, each one object; what may follow some bytes of it [`after_byte`] <RFC 8259,
--   sections 4 to 7>
-- The text is lines, each of which is one object.
abbrev pub AreObjects : List ℕ → Type 0
AreObjects text = after_all start text ≡ start

-- ---- where a writer of such lines is

abbrev pub has_value : Place → Bool
has_value after_zero = true
has_value digits = true
has_value ended = true
has_value other = false

-- A text that is written is at this spot: outside of objects, or in one after a member, in the name of one, before its
-- value, or in its value, which is a string.
abbrev pub IsAt : Spot → State → Type 0
IsAt Outside s = s ≡ start
IsAt Ended s = (has_value s.place ≡ true) × (s.inside ≡ object ∷ [])
IsAt InName s = s ≡ here (string true) (object ∷ [])
IsAt AtValue s = s ≡ here value (object ∷ [])
IsAt InText s = s ≡ here (string false) (object ∷ [])

-- | what leads from one position in an object to another; what represents a byte in a string [`escaped_byte`] <RFC
--   8259, section 7; this project>
-- These bytes lead from one spot to another.
abbrev pub Leads : (old : Spot) → List ℕ → (new : Spot) → Type 0
Leads old bytes new = (s : State) → IsAt old s → IsAt new (after_all s bytes)

-- a byte of a string, or its escape
abbrev pub escaped_byte : ℕ → List ℕ
escaped_byte b =
    if nat_lt b 32 then codes "\\u00" ++ hexadecimal b
    else if nat_eq b 34 || nat_eq b 92 then 92 ∷ b ∷ []
    else b ∷ []

abbrev pub is_in_string : Spot → Bool
is_in_string InName = true
is_in_string InText = true
is_in_string other = false

-- These bytes are part of a string, in a name and in a text.
abbrev pub StaysInString : List ℕ → Type 0
StaysInString bytes = (spot : Spot) → is_in_string spot ≡ true → Leads spot bytes spot

-- ---- what is put at once

-- | the texts of an object that are put at once [`object_end`, `member_start`, `item_start`, `number_members`]
-- what leads into the name of the next member
abbrev pub name_start : Spot → List ℕ
name_start Outside = codes "{\""
name_start Ended = codes ",\""
name_start InName = codes "\":null,\""
name_start AtValue = codes "null,\""
name_start InText = codes "\",\""

-- what ends an object that was begun, and its line
abbrev pub object_end : Spot → List ℕ
object_end Outside = []
object_end Ended = codes "}\n"
object_end InName = codes "\":null}\n"
object_end AtValue = codes "null}\n"
object_end InText = codes "\"}\n"

-- the name of a member, up to its value
abbrev pub member_start : Spot → List ℕ → List ℕ
member_start spot text = name_start spot ++ (text ++ codes "\":")

-- the end of a line, and the first members of the object of an item
abbrev pub item_start : Spot → (level offset : ℕ) → List ℕ
item_start spot level offset =
    object_end spot ++ (codes "{\"level\":" ++ (decimal level ++ (codes ",\"at\":" ++ decimal offset)))

-- the members for the number of an item
abbrev pub number_members : Spot → Space → (index : ℕ) → List ℕ
number_members spot space index =
    name_start spot ++ (codes "space\":\"" ++ (word_of space ++ (codes "\",\"number\":" ++ decimal index)))
