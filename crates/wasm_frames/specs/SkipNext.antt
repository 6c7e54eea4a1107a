-- Skipping a section or body by its first fields. Core specification, Binary format, Modules.
use Rattle.std.specs.Prelude.{◌≡◌, ℕ, ◌+◌, ◌-◌, ◌<◌, ◌≤◌, ◌^◌, ◌||◌, false, true, List, [], ◌++◌, length, Option}
use Rattle.std.specs.Prelude.{Some, None, IfSome, option_map, nat_le, if◌then◌else◌}
use Rattle.wasm_base.specs.FaultAt.{at_offset}
use Rattle.wasm_base.specs.Window.{Window, window_over}
use Rattle.wasm_base.specs.declared.fault.Fault.TheVariants.{UnexpectedEof}
use Rattle.wasm_frames.specs.Frame.{report_range}
use Rattle.wasm_frames.specs.ParserState.{ParserState, grammar_of, is_at_section}
use Rattle.wasm_frames.specs.StateAfter.{implies_nothing, missing_bytes, state_after, state_after_tile}
use Rattle.wasm_frames.specs.declared.skipping.PartHead.{PartHead}
use Rattle.wasm_frames.specs.declared.skipping.PartHead.TheVariants as code
use Rattle.wasm_frames.specs.declared.skipping.SkippedPart.{SkippedPart}
use Rattle.wasm_grammar.specs.Content.{fault}
use Rattle.wasm_grammar.specs.Cut.{Cut, cut}
use Rattle.wasm_grammar.specs.Grammar
use Rattle.wasm_grammar.specs.Grammar.{Shape, section, Tile, tile, final, verdict}
use Rattle.wasm_grammar.specs.Reading.{Report, custom_section, counted, unknown_section, code_entry, section_report}
use Rattle.wasm_grammar.specs.Reading.{tile_report}

-- what the first fields of a section or body say
pub data Head : Type 0 where
  custom : (text : List ℕ) (data_offset : ℕ) → Head
  items : (id count : ℕ) → Head
  unknown : (id : ℕ) → Head
  body : Head

-- | a part by its first fields, and when it is skipped; the parser afterwards; whatever bytes follow, the part is the
--   next tile or the stream has a fault at its content [`skip_of`, `state_after_skip`, `SkipsNext`, `PassesTile`,
--   `skip_in`] <Sections, Code Section; this project>
-- a section or body by its first fields, and the offsets between which its content is
pub record Skip : Type 0 where
  pub from : ℕ
  pub to : ℕ
  pub head : Head

-- the same as the code has it
abbrev pub head_is : PartHead → Head
head_is (code.Custom name data_offset) = custom name.now data_offset
head_is (code.Items id count) = items id count
head_is (code.Unknown id) = unknown id
head_is code.Body = body

abbrev pub skip_is : SkippedPart → Skip
skip_is s = record { from = s.range.start; to = s.range.end; head = head_is s.head }

-- the first fields of a part, by its report
abbrev pub head_in : Report → Head
head_in (custom_section text data_offset window) = custom text data_offset
head_in (counted id count window) = items id count
head_in (unknown_section id contents from to) = unknown id
head_in other = body

-- the report of a part at this offset, with the content so far
abbrev pub so_far : (features offset : ℕ) → Shape → Report
so_far features offset (section form id content) =
    section_report features offset (offset + length content) form id content
so_far features offset (Grammar.code_entry content) = code_entry (window_over features offset content)
so_far features offset other = tile_report features offset offset other

-- the report of a part whose end is missing, and the offset of that end
abbrev pub cut_part : (features : ℕ) → Option Cut → Option (Report × ℕ)
cut_part features c = option_map (λ c. (so_far features c.offset c.shape, c.offset + c.size)) c

-- the part with this report and this end
abbrev pub part_of : Report × ℕ → Skip
part_of part = record { from = (report_range part.0).start; to = part.1; head = head_in part.0 }

-- what a parser skips, by the bytes from its offset on: the part there, if its end is missing
abbrev pub skip_of : ParserState → (bytes : List ℕ) → Option Skip
skip_of p bytes =
    if p.expects_header || nat_le (2 ^ 64) (p.offset + length bytes) then None else
    option_map part_of (cut_part p.features (cut (grammar_of p) bytes))

-- the report of a part with these first fields, as far as it says something to later parts
abbrev pub report_with : Head → Report
report_with (custom text data_offset) = custom_section text data_offset (window_over 0 0 [])
report_with (items id count) = counted id count (window_over 0 0 [])
report_with (unknown id) = unknown_section id [] 0 0
report_with body = code_entry (window_over 0 0 [])

-- the state of a parser after what it skips
abbrev pub state_after_skip : ParserState → Option Skip → ParserState
state_after_skip p (Some skip) = state_after p skip.to (report_with skip.head)
state_after_skip p None = p

-- a part with these first fields, of which this window is the content
abbrev pub windowed : Window → Head → Skip
windowed window head = record { from = window.start; to = window.start + length window.bytes; head = head }

-- the part that is reported, if it is one that can be skipped
abbrev pub skip_in : Report → Option Skip
skip_in (custom_section text data_offset window) = Some (windowed window (custom text data_offset))
skip_in (counted id count window) = Some (windowed window (items id count))
skip_in (unknown_section id contents from to) = Some (record { from = from; to = to; head = unknown id })
skip_in (code_entry window) = Some (windowed window body)
skip_in other = None

-- A part with this report that ends at this offset can be passed: its first fields are all that later parts need.
pub record CanPass (p : ParserState) (report : Report) (end : ℕ) : Type 0 where
  pub after : p.offset ≤ end
  pub fits : end + missing_bytes report (end - p.offset) p.code_bytes < 2 ^ 64
  pub where_sections_are : p.expects_header ≡ false → implies_nothing report ≡ true → is_at_section p ≡ true
  pub first_fields : state_after p end (report_with (head_in report)) ≡ state_after p end report

abbrev pub PartCanPass : ParserState → Option (Report × ℕ) → Type 0
PartCanPass p part = IfSome part (λ x. CanPass p x.0 x.1)

-- The next tile of a stream that goes on with these bytes is the part that was skipped, with the same first fields and
-- offsets, and the parser is after it.
pub record PassesTile (old : ParserState) (rest : List ℕ) (skip : Skip) (new : ParserState) : Type 0 where
  pub next : Tile
  pub is_next : verdict (grammar_of old) rest ≡ tile next
  pub ends : old.offset + length next.bytes ≡ skip.to
  pub says : skip_in (tile_report old.features old.offset skip.to next.shape) ≡ Some skip
  pub state : new ≡ state_after_tile old next

-- Whatever bytes come after these, the parser has skipped the next part if they are enough, and otherwise the stream
-- ends with a fault where the content begins.
pub record SkipsPart (old : ParserState) (bytes : List ℕ) (skip : Skip) (new : ParserState) : Type 0 where
  pub whole : (more : List ℕ) → skip.to ≤ old.offset + length (bytes ++ more)
      → PassesTile old (bytes ++ more) skip new
  pub short : (more : List ℕ) → old.offset + length (bytes ++ more) < skip.to
      → verdict (grammar_of old) (bytes ++ more) ≡ final (fault (at_offset UnexpectedEof skip.from))
  pub missing : old.offset + length bytes < skip.to
  pub fits : skip.to < 2 ^ 64

abbrev pub SkipsNext : ParserState → (bytes : List ℕ) → Option Skip → ParserState → Type 0
SkipsNext old bytes (Some skip) new = SkipsPart old bytes skip new
SkipsNext old bytes None new = new ≡ old
