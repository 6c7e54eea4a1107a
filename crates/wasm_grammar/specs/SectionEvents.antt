-- What the events of sections and bodies say of the bytes that they consumed. Core specification, Binary format,
-- Modules, Sections and Code Section.
use Rattle.std.specs.declared.ops.Range.{Range}
use Rattle.std.specs.Prelude.{◌≡◌, ℕ, ◌+◌, List, ◌∷◌, ◌++◌, length, Some}
use Rattle.wasm_base.specs.Name.{named, name_limit, name}
use Rattle.wasm_base.specs.Number.{read, number}
use Rattle.wasm_base.specs.Window.{Window, window_over}
use Rattle.wasm_base.specs.declared.fault.NumberKind.TheVariants.{VarU32}
use Rattle.wasm_grammar.specs.Accepted.{IsNumber}
use Rattle.wasm_grammar.specs.Reading.{Report, counted, start_section, data_count_section, code_start, code_entry}
use Rattle.wasm_grammar.specs.Reading.{custom_section, unknown_section, Event}
use Rattle.wasm_grammar.specs.Sections.{section_of}

-- The content begins with a number of this value.
abbrev pub BeginsWithNumber : List ℕ → ℕ → Type 0
BeginsWithNumber content n = (used : ℕ) × (number VarU32 content ≡ read n used)

-- The content begins with this name, and the data begins this many bytes after its start.
abbrev pub BeginsWithName : List ℕ → (text : List ℕ) → ℕ → Type 0
BeginsWithName content text used = name (Some name_limit) content ≡ named text used

-- the bytes of a code section that come after its count
abbrev pub bytes_of_bodies : Report → ℕ
bytes_of_bodies (code_start count from to size) = size
bytes_of_bodies other = 0

-- What is reported of a section is what its content says, which begins at this offset; of a code section the content
-- goes up to its count. Windows have these features.
abbrev pub SaysContent : (features from : ℕ) (content : List ℕ) → Report → Type 0
SaysContent features from content (counted id count window) =
    (window ≡ window_over features from content) × BeginsWithNumber content count
SaysContent features from content (start_section func low high) = IsNumber content func
SaysContent features from content (data_count_section count low high) = IsNumber content count
SaysContent features from content (code_start count low high size) = IsNumber content count
SaysContent features from content (custom_section text data_offset window) =
    (window ≡ window_over features from content) × ((used : ℕ) × BeginsWithName content text used
    × (data_offset ≡ from + used))
SaysContent features from content (unknown_section id contents low high) = contents ≡ content
SaysContent features from content other = ⊥

-- The event at this offset consumed the bytes of a section with this id and range: its id, a length field, and the
-- content, which is the bytes of the range. Of a code section it is only the content up to its count.
pub record IsSectionEvent (features at id : ℕ) (range : Range ℕ) (e : Event) : Type 0 where
  pub field : List ℕ
  pub content : List ℕ
  pub bytes : e.consumed ≡ id ∷ (field ++ content)
  pub sized : IsNumber field (length content + bytes_of_bodies e.report)
  pub start : range.start ≡ at + 1 + length field
  pub end : range.end ≡ range.start + length content + bytes_of_bodies e.report
  pub says : SaysContent features range.start content e.report

-- The event at this offset consumed the bytes of a body: a size field, and that many bytes, which are its window.
pub record IsBodyEvent (features at : ℕ) (window : Window) (e : Event) : Type 0 where
  pub field : List ℕ
  pub content : List ℕ
  pub bytes : e.consumed ≡ field ++ content
  pub sized : IsNumber field (length content)
  pub over : window ≡ window_over features (at + length field) content

-- | the event of a section states what its bytes are: an id, a length field and the content, which is the bytes of
--   the range and begins with the count, index or name that is reported. That of a body states a size field and a
--   window [`IsSectionEvent`, `SaysContent`, `IsBodyEvent`] <Modules, Sections; Code Section>
-- What the event at this offset says of a section or a body is what its bytes are.
pub record SaysItsBytes (features at : ℕ) (e : Event) : Type 0 where
  pub section : (id : ℕ) (range : Range ℕ) → section_of e.report ≡ Some (id, range)
      → IsSectionEvent features at id range e
  pub body : (window : Window) → e.report ≡ code_entry window → IsBodyEvent features at window e
