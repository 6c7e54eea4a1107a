-- Lines of text, some of them under others, and what a writer has written of them.
use Rattle.std.specs.Prelude.{◌≡◌, ◌≢◌, ℕ, Bool, true, false, List, [], ◌∷◌, ◌++◌, codes, Option, Some, None}
use Rattle.std.specs.Prelude.{Err, nat_eq, if◌then◌else◌}
use Rattle.std.specs.Option.{unwrap_or}
use Rattle.std.specs.List.{flat_map, list_all, list_any}
use Rattle.std.specs.Io.KnownBytes.{Appends}
use Rattle.wasm_io.specs.Calls.{output_failed}
use Rattle.wasm_io.specs.Offsets.{offset_text}
use Rattle.wasm_io.specs.Page.{IsCut, PutsBytes}
use Rattle.wasm_io.specs.declared.devices.ListError.{ListError}
use Rattle.wasm_io.specs.declared.digits.Base.{Base}
use Rattle.wasm_io.specs.declared.digits.Base.TheVariants.{Decimal}
use Rattle.wasm_output.specs.Fields.{hexadecimal, quoted_text}
use Rattle.wasm_output.specs.Numbers.{AreShown, Number, blank_numbers, number_text}
use Rattle.wasm_output.specs.declared.numbers.Space.{Space}
use Rattle.wasm_io.specs.declared.devices.ListError.TheVariants.{Input, Memory}
use Rattle.wasm_output.specs.Json.{AreObjects, IsAt, after_all, start}
use Rattle.wasm_output.specs.declared.objects.Spot.{Spot}
use Rattle.wasm_output.specs.declared.objects.Spot.TheVariants.{Outside}
use Rattle.wasm_output.specs.declared.tree.Style.{Style}
use Rattle.wasm_output.specs.declared.tree.Style.TheVariants.{Lines, Objects}

-- a part of a line under another: words, or the number of an item
pub data Part : Type 0 where
  words : List ℕ → Part
  number : Number → Part

-- a line of the first level, without its line feed, by its text, the numbers of items that come after it, and the name
-- of an item, if it ends with one; one that is under another, by its parts, without its first two blanks and its line
-- feed; or a row of bytes of the stream, after the offset of the first one
pub data Line : Type 0 where
  first : List ℕ → List Number → (name : Option (List ℕ)) → Line
  under : List Part → Line
  row : (offset : ℕ) → (bytes : List ℕ) → Line

abbrev pub has_line_feed : List ℕ → Bool
has_line_feed text = list_any (λ b. nat_eq b 10) text

-- whether what is said to be a part of a line is; a number has no line feed
abbrev pub is_part : Part → Bool
is_part (words text) = if has_line_feed text then false else true
is_part (number n) = true

-- whether what is said to be under another is one line
abbrev pub is_line : Line → Bool
is_line (first text numbers name) = true
is_line (under parts) = list_all is_part parts
is_line (row offset bytes) = true

abbrev pub part_text : Part → List ℕ
part_text (words text) = text
part_text (number n) = number_text n []

abbrev pub after_blank : ℕ → List ℕ
after_blank byte = codes " " ++ hexadecimal byte

-- the name of an item, in quotes after a blank, if there is one
abbrev pub name_text : Option (List ℕ) → List ℕ
name_text (Some name) = codes " " ++ quoted_text name
name_text None = []

-- | a row of bytes, and the bytes that have to be shown before what comes next [`AddsBytes`; `Rows.BeginsWithRow`]
-- the text of a row, with its offset in this base
abbrev pub row_text : Base → (offset : ℕ) (bytes : List ℕ) → List ℕ
row_text base offset bytes = (offset_text base offset ++ codes " |") ++ (flat_map after_blank bytes ++ codes "\n")

abbrev pub text_of : Base → Line → List ℕ
text_of base (first text numbers name) = text ++ blank_numbers numbers (name_text name ++ codes "\n")
text_of base (under parts) = codes "  " ++ (flat_map part_text parts ++ codes "\n")
text_of base (row offset bytes) = row_text base offset bytes

-- what it adds to the outline
abbrev pub first_of : Line → List ℕ
first_of (first text numbers name) = text ++ codes "\n"
first_of (under parts) = []
first_of (row offset bytes) = []

-- the numbers that it shows
abbrev pub part_numbers : Part → List Number
part_numbers (words text) = []
part_numbers (number n) = n ∷ []

abbrev pub numbers_of : Line → List Number
numbers_of (first text numbers name) = numbers
numbers_of (under parts) = flat_map part_numbers parts
numbers_of (row offset bytes) = []

-- the bytes of the stream that it shows
abbrev pub bytes_of : Line → List ℕ
bytes_of (first text numbers name) = []
bytes_of (under parts) = []
bytes_of (row offset bytes) = bytes

-- The text is one line of the first level with these numbers after it, which adds this to the outline.
pub record IsFirst (text outline : List ℕ) (numbers : List Number) : Type 0 where
  pub front : List ℕ
  pub parts : text ≡ front ++ blank_numbers numbers (codes "\n")
  pub outlines : outline ≡ front ++ codes "\n"

-- | a text that is made of lines, its outline, those of the first level, and the numbers of items and the bytes of
--   the stream in it; the name of an item after one [`IsFirst`, `name_text`]
-- The text is made of lines, and its outline is those of the first level, without numbers and names: the others begin
-- with two blanks, but for rows of bytes. The numbers are those that its lines show, in order, and the bytes those of
-- its rows, which have their offsets in this base.
pub record IsOutlined (base : Base) (text outline : List ℕ) (numbers : List Number) (bytes : List ℕ) : Type 0 where
  pub lines : List Line
  pub whole : list_all is_line lines ≡ true
  pub parts : text ≡ flat_map (text_of base) lines
  pub outlines : outline ≡ flat_map first_of lines
  pub numbered : numbers ≡ flat_map numbers_of lines
  pub rowed : bytes ≡ flat_map bytes_of lines

-- | what a text is, by its style; whether these are lines, and the base of their offsets [`are_lines`, `base_of`]
-- A text is what it is to be: lines with this outline that show these numbers and bytes; or lines of JSON, each one
-- object.
abbrev pub IsShaped : Style → (text outline : List ℕ) → List Number → (bytes : List ℕ) → Type 0
IsShaped (Lines base) text outline numbers bytes = IsOutlined base text outline numbers bytes
IsShaped Objects text outline numbers bytes = AreObjects text

-- whether lines are written
abbrev pub are_lines : Style → Bool
are_lines (Lines base) = true
are_lines Objects = false

-- the base of the offsets in lines; objects have decimal ones
abbrev pub base_of : Style → Base
base_of (Lines base) = base
base_of Objects = Decimal

-- what a writer is: the bytes that its sink has taken, where these are known, those that wait, whether a line was begun
-- and not ended, whether the sink has failed, and why the writer has stopped, if it has; in which style it writes, and
-- in that of objects at which spot of one it is; and the bytes of the stream that are to be shown and weren't yet
pub record Writing : Type 0 where
  pub taken : Option (List ℕ)
  pub waiting : List ℕ
  pub is_begun : Bool
  pub has_failed : Bool
  pub why : Option ListError
  pub style : Style
  pub spot : Spot
  pub unshown : List ℕ

-- the part of it that is an output: a sink, and what waits for it
pub record Put : Type 0 where
  pub taken : Option (List ℕ)
  pub waiting : List ℕ
  pub has_failed : Bool
  pub why : Option ListError

-- and the rest
pub record Rest : Type 0 where
  pub is_begun : Bool
  pub style : Style
  pub spot : Spot
  pub unshown : List ℕ

-- that of objects, at this spot of one
abbrev pub of_objects : Spot → Rest
of_objects spot = record { is_begun = false; style = Objects; spot = spot; unshown = [] }

abbrev pub with_rest : Rest → Put → Writing
with_rest rest put = record {
  taken = put.taken;
  waiting = put.waiting;
  is_begun = rest.is_begun;
  has_failed = put.has_failed;
  why = put.why;
  style = rest.style;
  spot = rest.spot;
  unshown = rest.unshown;
}

-- an output that stops since an allocation failed, unless it has stopped
abbrev pub stopped_without_memory : Put → Put
stopped_without_memory put = record put { why = Some (unwrap_or put.why Memory) }

-- a writer that has written nothing yet
abbrev pub starts_in : Style → (taken : Option (List ℕ)) (failed : Bool) → Writing
starts_in style taken failed = record {
  taken = taken;
  waiting = [];
  is_begun = false;
  has_failed = failed;
  why = None;
  style = style;
  spot = Outside;
  unshown = [];
}

-- one that writes lines with offsets in this base
abbrev pub starts : Base → (taken : Option (List ℕ)) (failed : Bool) → Writing
starts base taken failed = starts_in (Lines base) taken failed

-- one that writes objects
abbrev pub starts_objects : (taken : Option (List ℕ)) (failed : Bool) → Writing
starts_objects taken failed = starts_in Objects taken failed

-- what there was at first, in which style is written, and the outline and the numbers since, and the bytes that are to
-- be shown
pub record Origin : Type 0 where
  pub taken : Option (List ℕ)
  pub has_failed : Bool
  pub style : Style
  pub outline : List ℕ
  pub numbers : List Number
  pub bytes : List ℕ

-- a line under another that was begun, and its numbers
abbrev pub begun : Bool → List Part → List ℕ
begun true parts = codes "  " ++ flat_map part_text parts
begun false parts = []

abbrev pub begun_numbers : Bool → List Part → List Number
begun_numbers true parts = flat_map part_numbers parts
begun_numbers false parts = []

-- All that was written or waits is whole lines with this outline, and perhaps a line that was begun, and shows these
-- numbers, and these bytes but those that weren't shown yet.
pub record IsGoing (base : Base) (o : Origin) (w : Writing) : Type 0 where
  pub written : List ℕ
  pub text : List ℕ
  pub lined : List Number
  pub rows : List ℕ
  pub line : List Part
  pub outlined : IsOutlined base text o.outline lined rows
  pub one_line : list_all is_part line ≡ true
  pub parts : written ++ w.waiting ≡ text ++ begun w.is_begun line
  pub numbered : o.numbers ≡ lined ++ begun_numbers w.is_begun line
  pub rowed : o.bytes ≡ rows ++ w.unshown
  pub took : Appends o.taken w.taken written
  pub failed : w.has_failed ≡ o.has_failed

-- All that was written or waits is whole objects, and perhaps one that was begun, up to the spot where the writer is.
pub record IsGoingInObjects (o : Origin) (w : Writing) : Type 0 where
  pub written : List ℕ
  pub is_at : IsAt w.spot (after_all start (written ++ w.waiting))
  pub took : Appends o.taken w.taken written
  pub failed : w.has_failed ≡ o.has_failed

abbrev pub IsGoingIn : Style → Origin → Writing → Type 0
IsGoingIn (Lines base) o w = IsGoing base o w
IsGoingIn Objects o w = IsGoingInObjects o w

-- A prefix of such a text was written, and no more could be.
pub record IsCutShort (o : Origin) (why : ListError) (w : Writing) : Type 0 where
  pub written : List ℕ
  pub unwritten : List ℕ
  pub shaped : IsShaped o.style (written ++ unwritten) o.outline o.numbers o.bytes
  pub took : Appends o.taken w.taken written
  pub failed : w.has_failed ≡ output_failed {A = Unit {0}} (Err why) o.has_failed
  pub no_input : why ≢ Input

-- A text with this outline was written, as far as it could be, in this style.
abbrev pub IsWrittenAs : Option ListError → Origin → Writing → Type 0
IsWrittenAs None o w = IsGoingIn o.style o w
IsWrittenAs (Some why) o w = IsCutShort o why w

-- | what a writer has written, and what a call adds below a line, with which numbers, or as a line of the first level
--   [`Adds`, `AddsNumber`, `AddsFirst`]
abbrev pub IsWritten : Origin → Writing → Type 0
IsWritten o w = (w.style ≡ o.style) × IsWrittenAs w.why o w

-- What was written is under the lines before it.
abbrev pub Adds : (old new : Writing) → Type 0
Adds old new = (o : Origin) → IsWritten o old → IsWritten o new

-- the outline with one line more
abbrev pub with_line : Origin → List ℕ → Origin
with_line o line = record o { outline = o.outline ++ line }

-- with these numbers more
abbrev pub with_numbers : Origin → List Number → Origin
with_numbers o numbers = record o { numbers = o.numbers ++ numbers }

-- with these bytes more
abbrev pub with_bytes : Origin → List ℕ → Origin
with_bytes o bytes = record o { bytes = o.bytes ++ bytes }

-- These bytes are to be shown before what comes next, and all before them were.
abbrev pub AddsBytes : List ℕ → (old new : Writing) → Type 0
AddsBytes bytes old new = (o : Origin) → IsWritten o old → IsWritten (with_bytes o bytes) new

-- This line of the first level was written, which may end with numbers.
abbrev pub AddsFirst : (line : List ℕ) (old new : Writing) → Type 0
AddsFirst line old new = (outline : List ℕ) (numbers : List Number) → IsFirst line outline numbers → (o : Origin)
    → IsWritten o old → IsWritten (with_numbers (with_line o outline) numbers) new

-- What was written is under the lines before it, and shows these numbers.
abbrev pub AddsThese : List Number → (old new : Writing) → Type 0
AddsThese numbers old new = (o : Origin) → IsWritten o old → IsWritten (with_numbers o numbers) new

-- It shows this one.
abbrev pub AddsNumber : Space → (index : ℕ) → (old new : Writing) → Type 0
AddsNumber space index old new = AddsThese (record { space = space; index = index } ∷ []) old new

-- What was written is under the lines before it, and shows numbers of which this holds.
abbrev pub AddsNumbers : (allowed : List Number → Type 0) (old new : Writing) → Type 0
AddsNumbers allowed old new = (o : Origin) → IsWritten o old
    → (shown : List Number) × allowed shown × IsWritten (with_numbers o shown) new

-- They are all of these, or a prefix if the writer has stopped.
abbrev pub AddsAll : List Number → (old new : Writing) → Type 0
AddsAll all old new = AddsNumbers (λ shown. AreShown new.why shown all) old new

-- ---- bytes

-- Bytes were put after those that wait, of which some may have been written.
pub record IsPushed (bytes : List ℕ) (old new : Writing) : Type 0 where
  pub puts : PutsBytes old.taken new.taken old.waiting bytes new.waiting
  pub begun : new.is_begun ≡ old.is_begun
  pub failed : new.has_failed ≡ old.has_failed
  pub why : new.why ≡ old.why
  pub style : new.style ≡ old.style
  pub spot : new.spot ≡ old.spot
  pub unshown : new.unshown ≡ old.unshown

-- A prefix of those that waited was written, and no more could be.
pub record IsStuck (why : ListError) (old new : Writing) : Type 0 where
  pub cut : IsCut old.taken new.taken old.waiting why
  pub begun : new.is_begun ≡ old.is_begun
  pub failed : new.has_failed ≡ output_failed {A = Unit {0}} (Err why) old.has_failed
  pub style : new.style ≡ old.style
  pub spot : new.spot ≡ old.spot
  pub unshown : new.unshown ≡ old.unshown

-- the effect of bytes that are put by a writer, which stops if it can't go on
abbrev pub PutsAs : (before after : Option ListError) (bytes : List ℕ) (old new : Writing) → Type 0
PutsAs (Some why) after bytes old new = new ≡ old
PutsAs None None bytes old new = IsPushed bytes old new
PutsAs None (Some why) bytes old new = IsStuck why old new

abbrev pub Puts : (bytes : List ℕ) (old new : Writing) → Type 0
Puts bytes old new = PutsAs old.why new.why bytes old new

-- nothing waits, no line or object is begun, and all bytes were shown, unless the writer has stopped
pub record IsOut (w : Writing) : Type 0 where
  pub none_waits : w.why ≡ None → w.waiting ≡ []
  pub none_begun : w.why ≡ None → are_lines w.style ≡ true → w.is_begun ≡ false
  pub outside : w.why ≡ None → w.style ≡ Objects → w.spot ≡ Outside
  pub all_shown : w.why ≡ None → are_lines w.style ≡ true → w.unshown ≡ []
