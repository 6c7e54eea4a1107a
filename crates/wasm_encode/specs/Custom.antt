-- The bytes of custom sections. Core specification, Binary format, Modules, Custom Section.
use Rattle.std.specs.Prelude.{ℕ, ◌<◌, ◌^◌, List, ◌++◌, length}
use Rattle.wasm_encode.specs.Frames.{frame_of}
use Rattle.wasm_encode.specs.Names.{NameFits, name_bytes}
use Rattle.wasm_grammar.specs.Accepted.{SectionFrame, frame_bytes}
use Rattle.wasm_grammar.specs.Ids.{custom_id}

-- the content: its name and its data
abbrev pub custom_content : (name text : List ℕ) → List ℕ
custom_content name text = name_bytes name ++ text

-- the section as a part of a module
abbrev pub custom_frame : (name text : List ℕ) → SectionFrame
custom_frame name text = frame_of custom_id (custom_content name text)

-- | the bytes of a custom section: its id, its length, its name and its data; whether it fits: its name is within the
--   limit of names, and the length of its content is a `u32` [`custom_frame`, `custom_content`; `CustomFits`]
--   <Custom Section>
abbrev pub custom_bytes : (name text : List ℕ) → List ℕ
custom_bytes name text = frame_bytes (custom_frame name text)

-- The name is within its limit, and the length of the content is a u32.
pub record CustomFits (name text : List ℕ) : Type 0 where
  pub name_fits : NameFits name
  pub sized : length (custom_content name text) < 2 ^ 32
