-- The bytes of numbers, names and custom sections. Core specification, Binary format, Values and Custom Section.
use Rattle.std.specs.Prelude.{◌≡◌, ℕ, zero, suc, ◌+◌, ◌<◌, ◌≤◌, ◌/◌, ◌%◌, ◌^◌, true, List, [], ◌∷◌, ◌++◌, length}
use Rattle.std.specs.Prelude.{nat_lt, if◌then◌else◌}
use Rattle.std.specs.Str.{is_utf8}
use Rattle.wasm_base.specs.Name.{name_limit}
use Rattle.wasm_edits.specs.declared.encoding.NewSection.{NewSection}
use Rattle.wasm_grammar.specs.Accepted.{SectionFrame}
use Rattle.wasm_grammar.specs.Ids.{custom_id}

-- the septets of a number, the lowest first, in as few bytes as it takes, which are at most one more than this
abbrev pub leb : (most : ℕ) → ℕ → List ℕ
leb zero n = n ∷ []
leb (suc most) n = if nat_lt n 128 then n ∷ [] else (n % 128 + 128) ∷ leb most (n / 128)

-- | the shortest encoding of a u32; a name with its size; a custom section [`encoded_name`, `encoded_section`] <Values,
--   Integers; Names; Custom Section>
abbrev pub encoded : ℕ → List ℕ
encoded n = leb 4 n

abbrev pub encoded_name : (text : List ℕ) → List ℕ
encoded_name text = encoded (length text) ++ text

-- the content of a custom section: its name and its data
abbrev pub content_of : NewSection → List ℕ
content_of s = encoded_name s.name.now ++ s.«data».now

-- the section as a part of a stream: its id, its length and its content
abbrev pub frame_of : NewSection → SectionFrame
frame_of s = record {
  id = custom_id;
  sized = record { field = encoded (length (content_of s)); content = content_of s };
}

abbrev pub encoded_section : NewSection → List ℕ
encoded_section s = custom_id ∷ (encoded (length (content_of s)) ++ content_of s)

-- The section can be read: its name is text and not above the limit of names, and its length is a u32.
pub record Fits (s : NewSection) : Type 0 where
  pub text : is_utf8 s.name.now ≡ true
  pub short : length s.name.now ≤ name_limit
  pub sized : length (content_of s) < 2 ^ 32
