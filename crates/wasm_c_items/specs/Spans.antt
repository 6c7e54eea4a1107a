-- Places in the caller's bytes.
use Rattle.std.specs.Prelude.{ℕ, ◌+◌, ◌-◌, ◌^◌, Bool, true, false, List, length, Ok, Err, nat_lt, if◌then◌else◌}
use Rattle.wasm_base.specs.FaultAt.{at_offset}
use Rattle.wasm_base.specs.Number.{unsigned_at}
use Rattle.wasm_base.specs.Outcome.{Outcome}
use Rattle.wasm_base.specs.Section.{Section}
use Rattle.wasm_base.specs.Window.{Place, Window, place, range_of, window_over}
use Rattle.wasm_base.specs.declared.fault.Fault.TheVariants.{OffsetRange}
use Rattle.wasm_base.specs.declared.fault.NumberKind.TheVariants.{VarU32}
use Rattle.wasm_c_items.specs.declared.spans.PlainSpan.{PlainSpan}

-- where these bytes begin, which are at this offset of the stream
abbrev pub place_over : (features offset : ℕ) → List ℕ → Place
place_over features offset bytes = place (window_over features offset bytes)

-- | what is read where the caller's bytes begin; the places in them of a window, a list and a text [`window_span`,
--   `items_span`, `text_span`]
-- what is read where these bytes begin; bytes that pass the greatest offset are refused
abbrev pub read_over : {X : Type 0} → (Place → Outcome X) → (features offset : ℕ) → List ℕ → Outcome X
read_over reading features offset bytes =
    if nat_lt (offset + length bytes) (2 ^ 64) then reading (place_over features offset bytes) else
    Err (at_offset OffsetRange offset)

abbrev pub flag : Bool → ℕ
flag false = 0
flag true = 1

abbrev pub no_span : PlainSpan
no_span = record { at = 0; size = 0 }

-- where a window is, from an offset on
abbrev pub window_span : (from : ℕ) → Window → PlainSpan
window_span from w = record { at = w.start - from; size = length w.bytes }

-- where the items of a section are, which end where its window does
abbrev pub items_span : (from : ℕ) → Section → PlainSpan
items_span from s = record {
  at = (place s.reader).offset - from;
  size = (range_of s.reader).end - (place s.reader).offset;
}

-- where bytes are that end at an offset
abbrev pub span_before : (from to size : ℕ) → PlainSpan
span_before from to size = record { at = to - from - size; size = size }

-- how many bytes are before what a number is the size of
abbrev pub after_size : (from : ℕ) → Outcome ℕ → ℕ
after_size from (Ok size) = size.1.offset - from
after_size from (Err f) = 0

-- where a text of this many bytes is that begins at a place, with its size
abbrev pub text_span : (from : ℕ) → Place → (size : ℕ) → PlainSpan
text_span from p size = record { at = after_size from (unsigned_at VarU32 p); size = size }

-- the same of the text after what was read there
abbrev pub text_after : {X : Type 0} → (from size : ℕ) → Outcome X → PlainSpan
text_after from size (Ok first) = text_span from first.1 size
text_after from size (Err f) = record { at = 0; size = size }
