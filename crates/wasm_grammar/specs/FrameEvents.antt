-- The events of a stream, as its sections determine them. Core specification, Binary format, Modules, Sections and Code
-- Section.
use Rattle.std.specs.Prelude.{◌≡◌, ℕ, ◌+◌, List, [], ◌∷◌, ◌++◌, length, flat_map, filter, Bool, nat_lt}
use Rattle.wasm_base.specs.Window.{window_over}
use Rattle.wasm_grammar.specs.Accepted.{header_bytes, Sized, sized_bytes, SectionFrame, frame_bytes, frame_rank}
use Rattle.wasm_grammar.specs.Accepted.{CodeDivision}
use Rattle.wasm_grammar.specs.Content.{Kind, code, kind_of, ended, Form, whole}
use Rattle.wasm_grammar.specs.Reading.{version, code_start, code_entry, section_report, Event, last_event}
use Rattle.wasm_grammar.specs.declared.encoding.Encoding.{Encoding}
use Rattle.wasm_grammar.specs.declared.encoding.Encoding.TheVariants.{Module, Component}

-- the version that a header of this encoding has
abbrev pub version_number : Encoding → ℕ
version_number Module = 1
version_number Component = 13

-- the event of a header
abbrev pub header_event : (start : ℕ) → Encoding → Event
header_event start encoding = record {
  report = version (version_number encoding) encoding start (start + length (header_bytes encoding));
  consumed = header_bytes encoding;
}

-- the event of a section of this form, which begins at this offset
abbrev pub section_event : (features at : ℕ) → Form → SectionFrame → Event
section_event features at form f = record {
  report =
      section_report features (at + 1 + length f.sized.field) (at + length (frame_bytes f)) form f.id f.sized.content;
  consumed = frame_bytes f;
}

-- the event of the start of a code section, up to its count
abbrev pub start_event : (at : ℕ) (f : SectionFrame) → CodeDivision f.sized.content → Event
start_event at f d = record {
  report = code_start (length d.bodies) (at + 1 + length f.sized.field) (at + length (frame_bytes f))
      (length (flat_map sized_bytes d.bodies));
  consumed = f.id ∷ (f.sized.field ++ d.field);
}

-- the event of a body
abbrev pub body_event : (features at : ℕ) → Sized → Event
body_event features at s = record {
  report = code_entry (window_over features (at + length s.field) s.content);
  consumed = sized_bytes s;
}

-- the events of bodies, of which the first begins at this offset
abbrev pub body_events : (features at : ℕ) → List Sized → List Event
body_events features at [] = []
body_events features at (s ∷ bodies) = body_event features at s
    ∷ body_events features (at + length (sized_bytes s)) bodies

-- the events of a code section: its start, and its bodies
abbrev pub code_events : (features at : ℕ) (f : SectionFrame) → CodeDivision f.sized.content → List Event
code_events features at f d =
    start_event at f d ∷ body_events features (at + 1 + length f.sized.field + length d.field) d.bodies

-- These are the events of a section of this kind, which begins at this offset.
abbrev pub KindEvents : (features at : ℕ) → Kind → SectionFrame → List Event → Type 0
KindEvents features at (whole form) f events = events ≡ section_event features at form f ∷ []
KindEvents features at code f events = (d : CodeDivision f.sized.content) × (events ≡ code_events features at f d)

-- like `KindEvents`, for a section in a stream of this encoding
abbrev pub FrameEvents : (features : ℕ) → Encoding → (at : ℕ) → SectionFrame → List Event → Type 0
FrameEvents features encoding at f events = KindEvents features at (kind_of encoding f.id) f events

-- These are the events of sections, one after the other, of which the first begins at this offset.
abbrev pub FramesEvents : (features : ℕ) → Encoding → (at : ℕ) → List SectionFrame → List Event → Type 0
FramesEvents features encoding at [] events = events ≡ []
FramesEvents features encoding at (f ∷ frames) events =
    (first : List Event) × (more : List Event) × (events ≡ first ++ more)
    × FrameEvents features encoding at f first × FramesEvents features encoding (at + length (frame_bytes f)) frames
    more

-- | the events of an accepted stream by its sections: its header's, one of each section that is read whole, the start
--   and the bodies of a code section, its end [`FramesEvents`, `FrameEvents`] <Modules, Sections, Code Section>
-- These are the events of a stream that starts at this offset: its header's, those of its sections in their order, and
-- its end.
pub record TellsFrames (start features : ℕ) (encoding : Encoding) (frames : List SectionFrame)
    (events : List Event) : Type 0 where
  pub inner : List Event
  pub sections : FramesEvents features encoding (start + length (header_bytes encoding)) frames inner
  pub whole : events ≡ header_event start encoding ∷ (inner
      ++ last_event (ended (start + length (header_bytes encoding ++ flat_map frame_bytes frames))) ∷ [])

-- whether a section has a rank
abbrev pub has_rank : Encoding → SectionFrame → Bool
has_rank encoding f = nat_lt 0 (frame_rank encoding f)

-- | these sections imply the same for later ones: those that have a rank are the same <Modules>
-- These sections say the same to later ones as the others: those of them that have a rank are the same.
abbrev pub SayTheSame : Encoding → List SectionFrame → List SectionFrame → Type 0
SayTheSame encoding earlier others = filter (has_rank encoding) earlier ≡ filter (has_rank encoding) others
