-- What encodings are read as.
use Rattle.std.specs.Prelude.{◌≡◌, ℕ, ◌<◌, ◌≤◌, ◌^◌, true, List, ◌++◌, length, Some}
use Rattle.std.specs.Str.{is_utf8}
use Rattle.wasm_base.specs.Name.{named, name_limit, name}
use Rattle.wasm_base.specs.Number.{read, number}
use Rattle.wasm_base.specs.declared.fault.NumberKind.TheVariants.{VarU32}
use Rattle.wasm_edits.specs.Encoded.{encoded, encoded_name, encoded_section, frame_of, Fits}
use Rattle.wasm_edits.specs.declared.encoding.NewSection.{NewSection}
use Rattle.wasm_grammar.specs.Accepted.{IsFrame, SectionFrame, frame_bytes}
use Rattle.wasm_grammar.specs.Ids.{custom_id}
use Rattle.wasm_grammar.specs.declared.encoding.Encoding.{Encoding}

-- | an encoded number, name or section is read as that, wherever it is, and no shorter bytes are [`NumbersReadBack`,
--   `NamesReadBack`, `SectionsReadBack`; `NumbersAreShortest`, `NamesAreShortest`, `SectionsAreShortest`] <Values,
--   Integers; Names; Custom Section>
-- An encoded number is read as that number, and takes its bytes, whatever comes after it.
abbrev pub NumbersReadBack : Type 0
NumbersReadBack = (n : ℕ) (later : List ℕ) → n < 2 ^ 32
    → number VarU32 (encoded n ++ later) ≡ read n (length (encoded n))

-- No other encoding of the number has fewer bytes.
abbrev pub NumbersAreShortest : Type 0
NumbersAreShortest = (n used : ℕ) (bytes : List ℕ) → number VarU32 bytes ≡ read n used → length (encoded n) ≤ used

-- A name is read as that name, and takes its bytes, whatever comes after it.
abbrev pub NamesReadBack : Type 0
NamesReadBack = (text later : List ℕ) → is_utf8 text ≡ true → length text ≤ name_limit
    → name (Some name_limit) (encoded_name text ++ later) ≡ named text (length (encoded_name text))

-- The frame is that of a custom section with the name and the data of this one.
pub record HoldsSection (s : NewSection) (f : SectionFrame) : Type 0 where
  pub of_id : f.id ≡ custom_id
  pub prefix : List ℕ
  pub parts : f.sized.content ≡ prefix ++ s.«data».now
  pub reads : name (Some name_limit) f.sized.content ≡ named s.name.now (length prefix)

-- A custom section is well-formed in each encoding, and read as one with its name and its data.
abbrev pub SectionsReadBack : Type 0
SectionsReadBack = (encoding : Encoding) (s : NewSection) → Fits s
    → IsFrame encoding (frame_of s) × HoldsSection s (frame_of s)

-- No shorter bytes are read as a section with the name and the data.
abbrev pub SectionsAreShortest : Type 0
SectionsAreShortest = (encoding : Encoding) (s : NewSection) (f : SectionFrame) → IsFrame encoding f → HoldsSection s f
    → length (encoded_section s) ≤ length (frame_bytes f)

-- No shorter bytes are read as the name.
abbrev pub NamesAreShortest : Type 0
NamesAreShortest = (text bytes : List ℕ) (used : ℕ) → name (Some name_limit) bytes ≡ named text used
    → length (encoded_name text) ≤ used
