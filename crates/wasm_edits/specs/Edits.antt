-- Edits of custom sections. Core specification, Binary format, Modules, Custom Section.
use Rattle.std.specs.Prelude.{ℕ, Bool, true, false, ◌&&◌, not, List, [], ◌∷◌, ◌++◌, map, filter, flat_map, Some}
use Rattle.std.specs.Prelude.{bytes_eq, nat_eq, if◌then◌else◌}
use Rattle.wasm_base.specs.Name.{Name, named, refused, name_limit, name}
use Rattle.wasm_edits.specs.Encoded.{Fits, encoded_section, frame_of}
use Rattle.wasm_edits.specs.Stripped.{frame_stays}
use Rattle.wasm_edits.specs.declared.edits.Fate.{Fate}
use Rattle.wasm_edits.specs.declared.edits.Fate.TheVariants.{Stays, Goes, Becomes}
use Rattle.wasm_edits.specs.declared.edits.Edit.{Edit}
use Rattle.wasm_edits.specs.declared.edits.Edit.TheVariants.{Append, Keep, Remove, Replace}
use Rattle.wasm_edits.specs.declared.encoding.NewSection.{NewSection}
use Rattle.wasm_edits.specs.Fates.{stays_by}
use Rattle.wasm_frames.specs.SkipNext.{Head, custom}
use Rattle.wasm_grammar.specs.Accepted.{SectionFrame}
use Rattle.wasm_grammar.specs.Ids.{custom_id}
use Rattle.wasm_grammar.specs.Reading.{Event, Report, custom_section}

-- ---- what edits say of sections

abbrev pub name_is : (text : List ℕ) → Name → Bool
name_is text (named other used) = bytes_eq other text
name_is text (refused f place) = false

-- whether a section is a custom section with this name
abbrev pub section_is_named : (text : List ℕ) → SectionFrame → Bool
section_is_named text f = nat_eq f.id custom_id && name_is text (name (Some name_limit) f.sized.content)

-- whether a section with this name stays where those with another name do not go
abbrev pub is_other_than : (name text : List ℕ) → Bool
is_other_than name text = not (bytes_eq text name)

-- a section after those with its name were replaced
abbrev pub replaced_by : NewSection → SectionFrame → SectionFrame
replaced_by section f = if section_is_named section.name.now f then frame_of section else f

-- | the sections of a stream after edits, one edit after the other: custom sections are removed, replaced in their
--   places, or appended [`after_edit`] <Custom Section>
-- the sections of a stream after an edit
abbrev pub after_edit : Edit → List SectionFrame → List SectionFrame
after_edit (Keep keep) frames = filter (frame_stays (stays_by keep)) frames
after_edit (Remove name) frames = filter (frame_stays (is_other_than name.now)) frames
after_edit (Append section) frames = frames ++ frame_of section ∷ []
after_edit (Replace section) frames = map (replaced_by section) frames

-- the same for several edits, one after the other
abbrev pub after_edits : List Edit → List SectionFrame → List SectionFrame
after_edits [] frames = frames
after_edits (edit ∷ edits) frames = after_edits edits (after_edit edit frames)

-- The new section of an edit can be written.
abbrev pub CanBeMade : Edit → Type 0
CanBeMade (Keep keep) = Unit {0}
CanBeMade (Remove name) = Unit {0}
CanBeMade (Append section) = Fits section
CanBeMade (Replace section) = Fits section

-- What became of a section can be written.
abbrev pub CanBeWritten : Fate → Type 0
CanBeWritten Stays = Unit {0}
CanBeWritten Goes = Unit {0}
CanBeWritten (Becomes section) = Fits section

-- ---- what becomes of one section

-- whether an edit leaves a section with this name
abbrev pub leaves : Edit → (text : List ℕ) → Bool
leaves (Keep keep) text = stays_by keep text
leaves (Remove name) text = is_other_than name.now text
leaves (Append section) text = true
leaves (Replace section) text = true

-- what a section with this name is after an edit that leaves it, if it was this before
abbrev pub replaces : Edit → (text : List ℕ) → Fate → Fate
replaces (Replace section) text old = if bytes_eq text section.name.now then Becomes section else old
replaces other text old = old

abbrev pub fate_from : Fate → List Edit → (text : List ℕ) → Fate
fate_from old [] text = old
fate_from old (edit ∷ edits) text =
    if leaves edit text then fate_from (replaces edit text old) edits text else Goes

-- | what becomes of a custom section with this name; and the sections that are appended: each as the later edits leave
--   it [`fate_by`, `new_bytes`]
-- what becomes of a custom section with this name
abbrev pub fate_by : List Edit → (text : List ℕ) → Fate
fate_by edits text = fate_from Stays edits text

-- a section that is appended, where one with its name becomes this
abbrev pub as_other : NewSection → Fate → Fate
as_other section Stays = Becomes section
as_other section Goes = Goes
as_other section (Becomes new) = Becomes new

-- what is written of the section that an edit appends, as later edits leave it
abbrev pub added_by : Edit → (later : List Edit) → Fate
added_by (Append section) later = as_other section (fate_by later section.name.now)
added_by other later = Goes

-- ---- what is written of events

-- whether a section stays as it is
abbrev pub is_itself : Fate → Bool
is_itself Stays = true
is_itself Goes = false
is_itself (Becomes section) = false

abbrev pub stays_in : List Edit → (text : List ℕ) → Bool
stays_in edits text = is_itself (fate_by edits text)

-- what is written of bytes that became this
abbrev pub bytes_as : Fate → (bytes : List ℕ) → List ℕ
bytes_as Stays bytes = bytes
bytes_as Goes bytes = []
bytes_as (Becomes section) bytes = encoded_section section

-- the bytes of the sections that come after those of the stream
abbrev pub new_bytes : List Edit → List ℕ
new_bytes [] = []
new_bytes (edit ∷ later) = bytes_as (added_by edit later) [] ++ new_bytes later

-- what becomes of a part with this report
abbrev pub report_fate : List Edit → Report → Fate
report_fate edits (custom_section text data_offset window) = fate_by edits text
report_fate edits other = Stays

-- the same for a part that is skipped, by its first fields
abbrev pub head_fate : List Edit → Head → Fate
head_fate edits (custom text data_offset) = fate_by edits text
head_fate edits other = Stays

-- | the bytes that are written of events after edits [`report_fate`, `bytes_as`]
abbrev pub edited_bytes : List Edit → List Event → List ℕ
edited_bytes edits events = flat_map (λ e. bytes_as (report_fate edits e.report) e.consumed) events
