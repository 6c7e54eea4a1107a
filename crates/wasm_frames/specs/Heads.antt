-- The head of a section or body: what comes before its content.
use Rattle.std.specs.Prelude.{◌≡◌, ℕ, ◌+◌, ◌≤◌, ◌<◌, ◌^◌, Bool, false, Result, Ok, Err, None}
use Rattle.wasm_base.specs.Window.{Place}
use Rattle.wasm_base.specs.declared.error.Error.{Error}
use Rattle.wasm_frames.specs.ParserState.{ParserState, known_context}
use Rattle.wasm_frames.specs.ReadsPart.{ReadsBody, ReadsByGrammar, ReadsNextSection}
use Rattle.wasm_frames.specs.declared.parts.SectionHead.{SectionHead}
use Rattle.wasm_grammar.specs.Content.{kind_of}
use Rattle.wasm_grammar.specs.Cut.{cut}
use Rattle.wasm_grammar.specs.Grammar.{Grammar, accept, after_id, after_length, body_grammar, bytes, code_entry}
use Rattle.wasm_grammar.specs.Grammar.{content_grammar, section_grammar}
use Rattle.wasm_grammar.specs.KindInCode.{kind_is}
use Rattle.wasm_grammar.specs.Reading.{Report}
use Rattle.wasm_grammar.specs.Waiting.{is_magic_begun}

-- what may come after the head of a section, at this place
abbrev pub after_head : ParserState → SectionHead → Place → Grammar
after_head p head content =
    content_grammar (known_context p) (kind_is head.kind) head.id content.offset head.size

-- The head of a section was read from one place to another: it is in order, and ends within the offsets of a stream.
-- What then is read of the content is read of the section, and the section is cut as its content is.
pub record HasHead (p : ParserState) (Reads : Result Report Error → Place → Type 0) (begun : Bool) (g : Grammar)
    (before : Place) (head : SectionHead) (after : Place) : Type 0 where
  pub forward : before.offset ≤ after.offset
  pub features : after.features ≡ before.features
  pub known : kind_is head.kind ≡ kind_of p.encoding head.id
  pub fits : after.offset + head.size < 2 ^ 64
  pub next : (result : Result Report Error) (end : Place) → ReadsByGrammar (after_head p head after) after result end
      → Reads result end
  pub cuts : begun ≡ false → cut g before.rest ≡ cut (after_head p head after) after.rest

-- The head was read, or it has this fault. If a header may have begun, nothing is said of where the section is cut.
abbrev pub HeadBy : ParserState → (Reads : Result Report Error → Place → Type 0) → (begun : Bool) → Grammar
    → (before : Place) → Result SectionHead Error → (after : Place) → Type 0
HeadBy p Reads begun g before (Ok head) after = HasHead p Reads begun g before head after
HeadBy p Reads begun g before (Err e) after = Reads (Err e) after × (begun ≡ false → cut g before.rest ≡ None)

-- | the head of a section, and of a body: what is read after it is read of the section, also where its end is missing
--   [`ReadsHead`, `ReadsBodyHead`] <Sections, Code Section>
-- the head of a section
abbrev pub ReadsHead : ParserState → (before : Place) → Result SectionHead Error → (after : Place) → Type 0
ReadsHead p before result after =
    HeadBy p (ReadsNextSection p before) (is_magic_begun before.rest) (section_grammar (known_context p) before.offset)
    before result after

-- the head after the id, which is at this offset
abbrev pub ReadsHeadAfterId : ParserState → (start id : ℕ) → (before : Place) → Result SectionHead Error
    → (after : Place) → Type 0
ReadsHeadAfterId p start id before result after = let g = after_id (known_context p) start id in
    HeadBy p (ReadsByGrammar g before) false g before result after

-- the head after the length, whose field is at this offset
abbrev pub ReadsHeadAfterLength : ParserState → (id field size : ℕ) → (before : Place) → Result SectionHead Error
    → Type 0
ReadsHeadAfterLength p id field size before result =
    let g = after_length (known_context p) (kind_of p.encoding id) id field before.offset size in
    HeadBy p (ReadsByGrammar g before) false g before result before

-- what may come after the size of a body, at this place
abbrev pub after_size : (size : ℕ) → Place → Grammar
after_size size content = bytes size content.offset (λ body. accept (code_entry body))

-- The size of a body was read: it lies in its code section.
pub record HasSize (p : ParserState) (before : Place) (size : ℕ) (after : Place) : Type 0 where
  pub forward : before.offset ≤ after.offset
  pub features : after.features ≡ before.features
  pub within : after.offset + size ≤ before.offset + p.code_bytes
  pub next : (result : Result Report Error) (end : Place) → ReadsByGrammar (after_size size after) after result end
      → ReadsBody p before result end
  pub cuts : cut (body_grammar p.bodies p.code_bytes before.offset) before.rest ≡ cut (after_size size after) after.rest

abbrev pub ReadsBodyHead : ParserState → (before : Place) → Result ℕ Error → (after : Place) → Type 0
ReadsBodyHead p before (Ok size) after = HasSize p before size after
ReadsBodyHead p before (Err e) after = ReadsBody p before (Err e) after
    × (cut (body_grammar p.bodies p.code_bytes before.offset) before.rest ≡ None)
