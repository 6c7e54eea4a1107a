-- A part whose end is missing is read as its grammar cuts it.
use Rattle.std.specs.Prelude.{◌≡◌, ℕ, Bool, false, Option}
use Rattle.wasm_base.specs.Window.{Place}
use Rattle.wasm_frames.specs.Heads.{after_head}
use Rattle.wasm_frames.specs.ParserState.{ParserState, known_context}
use Rattle.wasm_frames.specs.SkipNext.{cut_part}
use Rattle.wasm_frames.specs.declared.parts.SectionHead.{SectionHead}
use Rattle.wasm_grammar.specs.Content.{Kind, code, whole}
use Rattle.wasm_grammar.specs.Cut.{cut, form_grows}
use Rattle.wasm_grammar.specs.Grammar.{Grammar, body_grammar, section_grammar}
use Rattle.wasm_grammar.specs.Reading.{Report}
use Rattle.wasm_grammar.specs.Tiling.{inside}

-- whether more content of this kind changes nothing of what its first fields say
abbrev pub kind_grows : Kind → Bool
kind_grows (whole form) = form_grows form
kind_grows code = false

-- What was read is the part of this grammar whose end is missing, or nothing.
abbrev pub CutsBy : Grammar → Place → Option (Report × ℕ) → Type 0
CutsBy g p result = result ≡ cut_part p.features (cut g p.rest)

-- | a section or body whose end is missing, by its first fields [`CutsBy`, `CutsSection`, `CutsContent`, `CutsBody`]
--   <Sections, Code Section; this project>
-- where a parser is that expects no header
abbrev pub Cuts : ParserState → Place → Option (Report × ℕ) → Type 0
Cuts p here result = CutsBy (inside (known_context p) p.bodies p.code_bytes here.offset) here result

-- a section
abbrev pub CutsSection : ParserState → Place → Option (Report × ℕ) → Type 0
CutsSection p here result = CutsBy (section_grammar (known_context p) here.offset) here result

-- a section after its head
abbrev pub CutsContent : ParserState → SectionHead → Place → Option (Report × ℕ) → Type 0
CutsContent p head here result = CutsBy (after_head p head here) here result

-- a body
abbrev pub CutsBody : ParserState → Place → Option (Report × ℕ) → Type 0
CutsBody p here result = CutsBy (body_grammar p.bodies p.code_bytes here.offset) here result
