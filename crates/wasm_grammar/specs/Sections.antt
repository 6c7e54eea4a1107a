-- The sections that a reading reports. Core specification, Binary format, Modules, Sections.
use Rattle.std.specs.declared.ops.Range.{Range}
use Rattle.std.specs.Prelude.{◌≡◌, ℕ, ◌+◌, ◌-◌, ◌<◌, ◌⊎◌, List, [], ◌∷◌, ◌++◌, length, take, drop, map, filter_map}
use Rattle.std.specs.Prelude.{flat_map, All, Option, Some, None, option_map}
use Rattle.wasm_base.specs.FaultAt.{FaultAt}
use Rattle.wasm_base.specs.Window.{Window}
use Rattle.wasm_grammar.specs.declared.encoding.Encoding.{Encoding}
use Rattle.wasm_grammar.specs.Accepted.{header_bytes, SectionFrame, frame_bytes, IsSized}
use Rattle.wasm_grammar.specs.Content.{kind_of, rank_of, fault}
use Rattle.wasm_grammar.specs.Reading.{Report, version, counted, start_section, data_count_section, code_start}
use Rattle.wasm_grammar.specs.Reading.{code_entry, custom_section, unknown_section, stream_end, Event}
use Rattle.wasm_grammar.specs.Ids.{custom_id, start_id, code_id, data_count_id}

-- the offsets of a window's bytes
abbrev pub window_range : Window → Range ℕ
window_range w = record { start = w.start; end = w.start + length w.bytes }

-- the section that is reported: its id, the offsets of its content, and its count, if it has one. A code section is
-- reported at its start, with all its content; its bodies are no sections.
abbrev pub parts_of : Report → Option (ℕ × Range ℕ × Option ℕ)
parts_of (counted id count window) = Some (id, window_range window, Some count)
parts_of (start_section func from to) = Some (start_id, record { start = from; end = to }, None)
parts_of (data_count_section count from to) = Some (data_count_id, record { start = from; end = to }, Some count)
parts_of (code_start count from to size) = Some (code_id, record { start = from; end = to }, Some count)
parts_of (custom_section name data_offset window) = Some (custom_id, window_range window, None)
parts_of (unknown_section id contents from to) = Some (id, record { start = from; end = to }, None)
parts_of other = None

abbrev pub without_count : Option (ℕ × Range ℕ × Option ℕ) → Option (ℕ × Range ℕ)
without_count None = None
without_count (Some s) = Some (s.0, s.1)

-- | the sections that events report: the id of each, and the offsets of its content [`sections_of`] <Modules,
--   Sections>
-- its id, and the offsets of its content
abbrev pub section_of : Report → Option (ℕ × Range ℕ)
section_of report = without_count (parts_of report)

-- its id, and its count, if it has one
abbrev pub id_and_count : Option (ℕ × Range ℕ × Option ℕ) → Option (ℕ × ℕ)
id_and_count None = None
id_and_count (Some s) = option_map (λ n. (s.0, n)) s.2

abbrev pub count_report : Report → Option (ℕ × ℕ)
count_report report = id_and_count (parts_of report)

-- the sections that events report, in their order
abbrev pub sections_of : List Event → List (ℕ × Range ℕ)
sections_of events = filter_map (λ e. section_of e.report) events

-- the bytes of a stream, which starts at this offset, in a range of its offsets
abbrev pub bytes_in : (stream : List ℕ) (start : ℕ) → Range ℕ → List ℕ
bytes_in stream start range = take (range.end - range.start) (drop (range.start - start) stream)

-- a section's id, and the bytes of its range
abbrev pub id_and_bytes : (stream : List ℕ) (start : ℕ) → ℕ × Range ℕ → ℕ × List ℕ
id_and_bytes stream start s = (s.0, bytes_in stream start s.1)

-- the same of a section with its bytes
abbrev pub id_and_content : SectionFrame → ℕ × List ℕ
id_and_content f = (f.id, f.sized.content)

-- where sections are of which the first begins at this offset: the id of each, and the offsets of its content
abbrev pub places_of : (offset : ℕ) → List SectionFrame → List (ℕ × Range ℕ)
places_of offset [] = []
places_of offset (f ∷ frames) =
    (f.id, record { start = offset + 1 + length f.sized.field; end = offset + length (frame_bytes f) })
    ∷ places_of (offset + length (frame_bytes f)) frames

-- | a stream is a header and the sections that are reported, of each its id, its length and the bytes of its range
--   <Modules, Sections>
-- The stream is a header and then these sections, and nothing between them or after: of each its id, its length, and
-- the bytes of its range.
pub record TiledBySections (stream : List ℕ) (start : ℕ) (sections : List (ℕ × Range ℕ)) (encoding : Encoding)
    (frames : List SectionFrame) : Type 0 where
  pub whole : stream ≡ header_bytes encoding ++ flat_map frame_bytes frames
  -- the length field of each says how long its content is
  pub sized : All (λ f. IsSized f.sized) frames
  -- they are the sections, and are in their ranges
  pub places : sections ≡ places_of (start + length (header_bytes encoding)) frames
  -- the content of each is the bytes of its range
  pub contents : map (id_and_bytes stream start) sections ≡ map id_and_content frames

-- The first event is a header, which names this encoding.
pub record BeginsAs (encoding : Encoding) (events : List Event) : Type 0 where
  pub num : ℕ
  pub from : ℕ
  pub to : ℕ
  pub first : Event
  pub later : List Event
  pub whole : events ≡ first ∷ later
  pub report : first.report ≡ version num encoding from to

-- the rank of the section with this id, or 0
abbrev pub rank_in : Encoding → ℕ → ℕ
rank_in encoding id = rank_of (kind_of encoding id) id

-- | of two sections the first has the lower rank <Modules>
-- If both sections have a rank, the first has the lower one.
abbrev pub RanksBelow : Encoding → (ℕ × Range ℕ) → (ℕ × Range ℕ) → Type 0
RanksBelow encoding s t = 0 < rank_in encoding s.0 → 0 < rank_in encoding t.0
    → rank_in encoding s.0 < rank_in encoding t.0

-- A body is reported.
abbrev pub ReportsBody : Event → Type 0
ReportsBody e = (window : Window) × (e.report ≡ code_entry window)

-- A fault is reported.
abbrev pub ReportsFault : Event → Type 0
ReportsFault e = (f : FaultAt) × (e.report ≡ stream_end (fault f))

-- | after the start of a code section: its bodies and then another event, or fewer and then a fault <Code Section>
-- These events follow the start of a code section of `count` bodies: all its bodies, and then another event; or fewer,
-- and then a fault, which is reported last.
pub record BodiesFollow (count : ℕ) (after : List Event) : Type 0 where
  pub bodies : List Event
  pub next : Event
  pub later : List Event
  pub whole : after ≡ bodies ++ next ∷ later
  pub each : All ReportsBody bodies
  pub other : ¬ ReportsBody next
  pub many : (length bodies ≡ count) ⊎ ((length bodies < count) × ReportsFault next × (later ≡ []))
