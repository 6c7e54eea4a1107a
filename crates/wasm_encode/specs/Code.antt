-- The bytes of function bodies, and code sections. Core specification, Binary format, Modules, Code Section.
use Rattle.std.specs.Prelude.{ℕ, ◌+◌, ◌<◌, ◌^◌, List, ◌++◌, length}
use Rattle.wasm_base.specs.Window.{place, window_over}
use Rattle.wasm_encode.specs.Frames.{frame_of}
use Rattle.wasm_encode.specs.Numbers.{unsigned_bytes}
use Rattle.wasm_encode.specs.Sections.{SectionFits, content_bytes}
use Rattle.wasm_grammar.specs.Accepted.{IsFrame}
use Rattle.wasm_grammar.specs.Ids.{code_id}
use Rattle.wasm_grammar.specs.declared.encoding.Encoding.TheVariants.{Module}
use Rattle.wasm_items.specs.Windows.{body_window}
use Rattle.wasm_items.specs.declared.code.FunctionBody.{FunctionBody}

-- the bytes of a body without its size: those that its window has in front of its reader
abbrev pub body_content : FunctionBody → List ℕ
body_content body = (place (body_window body)).rest

-- | the bytes of a function body: its size and its content; whether it fits; a body as it is read at an offset
--   [`body_content`; `BodyFits`; `body_placed`] <Code Section>
-- a body: its size, and its bytes, which are copied
unfoldable pub body_bytes : FunctionBody → List ℕ
body_bytes body = unsigned_bytes (length (body_content body)) ++ body_content body

abbrev pub BodyFits : FunctionBody → Type 0
BodyFits body = length (body_bytes body) < 2 ^ 32

-- the body as it is read with these features at an offset: its window is after its size
abbrev pub body_placed : (features offset : ℕ) → FunctionBody → FunctionBody
body_placed features offset body = record {
  reader = window_over features (offset + length (unsigned_bytes (length (body_content body)))) (body_content body);
}

-- | a section of function bodies that fit is a well-formed code section of a module <Code Section>
-- A section of bodies that fit is a well-formed code section of a module: a count, and as many bodies.
abbrev pub CodeSectionsAreFrames : Type 0
CodeSectionsAreFrames = (bodies : List FunctionBody) → SectionFits body_bytes BodyFits bodies
    → IsFrame Module (frame_of code_id (content_bytes body_bytes bodies))
