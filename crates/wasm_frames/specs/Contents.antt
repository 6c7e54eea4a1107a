-- What the content of a section is read as, or as much of it as there is.
use Rattle.std.specs.Prelude.{◌≡◌, ℕ, ◌+◌, length, Option, option_to_list, None, Some, Result, Ok, Err}
use Rattle.wasm_base.specs.FaultAt.{FaultAt, fault_at, hint_of}
use Rattle.wasm_base.specs.Window.{Place, Window}
use Rattle.wasm_base.specs.declared.error.Error.{Error}
use Rattle.wasm_grammar.specs.Content.{Form, Kind, code, items, kind_of, whole, wrong_content}
use Rattle.wasm_frames.specs.ReadsPart.{ReadsByGrammar}
use Rattle.wasm_grammar.specs.Grammar.{SectionContext, whole_grammar, wrong_data}
use Rattle.wasm_grammar.specs.Reading.{Report, section_report}
use Rattle.wasm_grammar.specs.declared.encoding.Encoding.TheVariants.{Module}

-- the first of two faults
abbrev pub first_of : Option FaultAt → Option FaultAt → Option FaultAt
first_of (Some f) other = Some f
first_of None other = other

-- the first fault of content of this form, which ends at this offset: of its bytes, or of its count
abbrev pub first_wrong : SectionContext → Form → (id end : ℕ) → Window → Option FaultAt
first_wrong context form id end w =
    first_of (wrong_content form w.start w.bytes) (wrong_data context form id end w.bytes)

-- | the content of a section, or as much of it as there is: its report, or its first fault [`first_wrong`,
--   `ReadsAnywhere`, `ReadsItems`, `ReadsKind`] <Modules, each section>
-- Content of this form was read: its report, or its first fault.
abbrev pub ReadsForm : SectionContext → Form → (id end : ℕ) → Window → Result Report Error → Type 0
ReadsForm context form id end w (Ok report) = (first_wrong context form id end w ≡ None)
    × (report ≡ section_report w.features w.start (w.start + length w.bytes) form id w.bytes)
ReadsForm context form id end w (Err e) = (first_wrong context form id end w ≡ Some (fault_at e))
    × (hint_of e ≡ None)

-- content that has the same meaning whatever came before it
abbrev pub ReadsAnywhere : Form → (id : ℕ) → Window → Result Report Error → Type 0
ReadsAnywhere form id w result = (context : SectionContext) (end : ℕ) → ReadsForm context form id end w result

-- The content of a complete section with this size, whatever came before it, was read from one place to another.
abbrev pub ReadsWhole : Form → (id size : ℕ) → (before : Place) → Result Report Error → (after : Place) → Type 0
ReadsWhole form id size before result after = (context : SectionContext)
    → ReadsByGrammar (whole_grammar context form id before.offset size) before result after

-- a count and items, after a data count section with this count, or none
abbrev pub ReadsItems : Option ℕ → (id end : ℕ) → Window → Result Report Error → Type 0
ReadsItems announced id end w result = (context : SectionContext) → context.data_counts ≡ option_to_list announced
    → ReadsForm context items id end w result

-- Content of this kind is a tile of its own, and a section with this id begins with a count if it is a count and items.
abbrev pub HasOwnTile : Kind → (id : ℕ) → Type 0
HasOwnTile (whole form) id = form ≡ items → kind_of Module id ≡ whole items
HasOwnTile code id = ⊥

-- content of this kind
abbrev pub ReadsKind : Option ℕ → Kind → (id end : ℕ) → Window → Result Report Error → Type 0
ReadsKind announced (whole form) id end w result = (context : SectionContext)
    → context.data_counts ≡ option_to_list announced → ReadsForm context form id end w result
ReadsKind announced code id end w result = ⊥
