-- What is seen on a walk over the items of a stream, in order, and the line of each fault.
use Rattle.std.specs.Prelude.{ℕ, Bool, true, false, List, [], ◌∷◌, ◌++◌, codes, decimal, Option, Some, None}
use Rattle.std.specs.List.{list_any}
use Rattle.wasm_base.specs.FaultAt.{FaultAt}
use Rattle.wasm_base.specs.Message.{message_of, number_text}
use Rattle.wasm_io.specs.Offsets.{offset_text}
use Rattle.wasm_io.specs.declared.digits.Base.TheVariants.{Hexadecimal}
use Rattle.wasm_output.specs.Fields.{quoted_text}
use Rattle.wasm_output.specs.Numbers.{Number}
use Rattle.wasm_output.specs.declared.numbers.Space.{Space}
use Rattle.wasm_show.specs.declared.walker.Within.{Within}
use Rattle.wasm_show.specs.declared.walker.Within.TheVariants as within

-- the site of items: none of the sections, the section with this name, or the custom section with this name
pub data Site : Type 0 where
  outside : Site
  section : List ℕ → Site
  custom : List ℕ → Site

-- | what is seen: the site of the items that follow, a section with an unknown id at this offset, an item, or a fault
--   in the place of one [`an_item`, `faulty`] <Sections; this project>
-- An item is seen at its level, with its offset and its number in an index space, as far as it has these.
pub data Seen : Type 0 where
  enters : Site → Seen
  unknown : (id offset : ℕ) → Seen
  an_item : (level : ℕ) (offset : Option ℕ) (number : Option (Space × ℕ)) → Seen
  faulty : FaultAt → Seen

-- what is seen of a place that is entered
abbrev pub site_seen : Within → Seen
site_seen within.Stream = enters outside
site_seen (within.Section name) = enters (section name.now)
site_seen (within.Custom name) = enters (custom name.now)
site_seen (within.Unknown id offset) = unknown id offset

-- ---- what follows from it

abbrev pub number_of : Option (Space × ℕ) → List Number
number_of None = []
number_of (Some n) = record { space = n.0; index = n.1 } ∷ []

abbrev pub numbers_seen : Seen → List Number
numbers_seen (an_item level offset number) = number_of number
numbers_seen other = []

-- | the numbers, the offsets and the faults of what is seen, in order [`offsets_of`, `any_fault`, `lines_of`]
abbrev pub numbers_of : List Seen → List Number
numbers_of [] = []
numbers_of (x ∷ later) = numbers_seen x ++ numbers_of later

abbrev pub offset_seen : Seen → List ℕ
offset_seen (an_item level (Some offset) number) = offset ∷ []
offset_seen other = []

-- the offsets at which items begin
abbrev pub offsets_of : List Seen → List ℕ
offsets_of [] = []
offsets_of (x ∷ later) = offset_seen x ++ offsets_of later

abbrev pub site_text : Site → List ℕ
site_text outside = []
site_text (section name) = codes ", in section " ++ name
site_text (custom name) = codes ", in custom section " ++ quoted_text name

-- the line of a fault: its offset, its message, its number, and the site of the item
abbrev pub fault_line : (prefix : List ℕ) → Site → FaultAt → List ℕ
fault_line prefix site f = prefix ++ (offset_text Hexadecimal f.offset ++ (codes ": " ++ (message_of f.fault
    ++ (number_text f.number ++ (site_text site ++ codes "\n")))))

-- that of a section with an unknown id, which is no fault
abbrev pub warning_line : (prefix : List ℕ) → (id offset : ℕ) → List ℕ
warning_line prefix id offset = prefix ++ (offset_text Hexadecimal offset
    ++ (codes ": warning: unknown section id: " ++ (decimal id ++ codes "\n")))

-- the line of what is seen, at the site that was entered last
abbrev pub seen_line : (prefix : List ℕ) → Site → Seen → List ℕ
seen_line prefix site (enters next) = []
seen_line prefix site (an_item level offset number) = []
seen_line prefix site (unknown id offset) = warning_line prefix id offset
seen_line prefix site (faulty f) = fault_line prefix site f

abbrev pub site_after : Site → Seen → Site
site_after site (enters next) = next
site_after site other = site

-- | the lines of what is seen: of each fault its offset, message, number and section, and of each section with an
--   unknown id a warning [`fault_line`, `warning_line`]
abbrev pub lines_of : (prefix : List ℕ) → Site → List Seen → List ℕ
lines_of prefix site [] = []
lines_of prefix site (n ∷ later) = seen_line prefix site n ++ lines_of prefix (site_after site n) later

abbrev pub last_site : Site → List Seen → Site
last_site site [] = site
last_site site (n ∷ later) = last_site (site_after site n) later

abbrev pub is_fault : Seen → Bool
is_fault (faulty f) = true
is_fault other = false

-- whether a fault is among these
abbrev pub any_fault : List Seen → Bool
any_fault seen = list_any is_fault seen
