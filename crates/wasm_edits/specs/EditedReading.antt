-- The reading of an edited stream. Core specification, Binary format, Modules, Custom Section.
use Rattle.std.specs.Prelude.{◌≡◌, ℕ, ◌+◌, List, [], ◌∷◌, ◌++◌, length, map, All}
use Rattle.wasm_base.specs.Window.{window_over}
use Rattle.wasm_edits.specs.Edited.{IsEdited}
use Rattle.wasm_edits.specs.Edits.{CanBeMade, added_by, report_fate}
use Rattle.wasm_edits.specs.Encoded.{content_of, encoded, encoded_name, encoded_section}
use Rattle.wasm_edits.specs.declared.edits.Edit.{Edit}
use Rattle.wasm_edits.specs.declared.edits.Fate.{Fate}
use Rattle.wasm_edits.specs.declared.edits.Fate.TheVariants.{Stays, Goes, Becomes}
use Rattle.wasm_edits.specs.declared.encoding.NewSection.{NewSection}
use Rattle.wasm_grammar.specs.Reading.{Event, Reading, Report, Stream, custom_section, stream_end}
use Rattle.wasm_grammar.specs.Shifted.{shifted_event}

-- ---- where the events come from

-- where an event of an edited stream comes from: an event that begins at this offset of the stream, or a new section
pub data EventOrigin : Type 0 where
  event_at : (from : ℕ) → Event → EventOrigin
  new_section : NewSection → EventOrigin

-- the new section that something became, if it became one
abbrev pub new_in : Fate → List NewSection
new_in Stays = []
new_in Goes = []
new_in (Becomes section) = section ∷ []

-- the sections that edits append, as the later ones leave them
abbrev pub new_sections : List Edit → List NewSection
new_sections [] = []
new_sections (edit ∷ later) = new_in (added_by edit later) ++ new_sections later

-- the new sections that come before an event: before the end those that are appended
abbrev pub added_before : List Edit → Report → List NewSection
added_before edits (stream_end end) = new_sections edits
added_before edits other = []

-- what comes of an event at this offset: the event, nothing, or the section that replaces it
abbrev pub origins_in : Fate → (from : ℕ) → Event → List EventOrigin
origins_in Stays from e = event_at from e ∷ []
origins_in Goes from e = []
origins_in (Becomes section) from e = new_section section ∷ []

-- | where each event of an edited stream comes from, in order: from an event of the stream that stays; from the section
--   that replaces it; before the end from a section that is appended [`origins`] <Custom Section>
-- the origins of the events of an edited stream, for the events of the stream from this offset on
abbrev pub origins : List Edit → (from : ℕ) → List Event → List EventOrigin
origins edits from [] = []
origins edits from (e ∷ events) =
    map (λ section. new_section section) (added_before edits e.report)
    ++ (origins_in (report_fate edits e.report) from e ++ origins edits (from + length e.consumed) events)

-- ---- the events

-- the offset of the content of a new section that begins at this offset
abbrev pub content_at : (at : ℕ) → NewSection → ℕ
content_at at section = at + 1 + length (encoded (length (content_of section)))

-- the event of a new section that begins at this offset: a custom section with its name, whose content is the name and
-- the data
abbrev pub new_event : (features at : ℕ) → NewSection → Event
new_event features at section = record {
  report = custom_section section.name.now (content_at at section + length (encoded_name section.name.now))
      (window_over features (content_at at section) (content_of section));
  consumed = encoded_section section;
}

-- The event at this offset has this origin: it is the event of the stream, with its offsets moved as it was itself, or
-- it is that of the new section.
abbrev pub ComesFrom : (features to : ℕ) → EventOrigin → Event → Type 0
ComesFrom features to (event_at from old) e = shifted_event from e ≡ shifted_event to old
ComesFrom features to (new_section section) e = e ≡ new_event features to section

-- | events that come from these: each is the same as in the stream, at the offset at which it is then, or that of a
--   custom section with the new name and data [`ComeFrom`, `ComesFrom`, `new_event`]
-- The events have these origins, in order, and the first begins at this offset.
abbrev pub ComeFrom : (features to : ℕ) → List EventOrigin → List Event → Type 0
ComeFrom features to [] events = events ≡ []
ComeFrom features to (origin ∷ origins) [] = ⊥
ComeFrom features to (origin ∷ origins) (e ∷ events) =
    ComesFrom features to origin e × ComeFrom features (to + length e.consumed) origins events

-- ---- the law

-- The reading of an edited stream is the edited reading.
abbrev pub ReadingsAreEdited : Type 0
ReadingsAreEdited = (edits : List Edit) (stream result : List ℕ) (features : ℕ) (events others : List Event)
    → All CanBeMade edits → Stream stream 0 → Stream result 0 → IsEdited edits stream result
    → Reading stream 0 features events → Reading result 0 features others
    → ComeFrom features 0 (origins edits 0 events) others
