-- Accepted streams: a header followed by well-formed sections. Core specification, Binary format, Modules.
use Rattle.std.specs.Prelude.{◌≡◌, ℕ, ◌<◌, ◌⊎◌, List, [], ◌∷◌, ◌++◌, length, All, Any, flat_map, Some, Bool, nat_eq}
use Rattle.wasm_base.specs.Name.{named, name_limit, name}
use Rattle.wasm_base.specs.Number.{read, number}
use Rattle.wasm_base.specs.declared.fault.NumberKind.TheVariants.{VarU32}
use Rattle.wasm_grammar.specs.Content.{Kind, custom, items, index, data_count, code, unknown, kind_of, rank_of}
use Rattle.wasm_grammar.specs.Content.{count_of, Form, whole}
use Rattle.wasm_grammar.specs.declared.encoding.Encoding.{Encoding}
use Rattle.wasm_grammar.specs.declared.encoding.Encoding.TheVariants.{Module, Component}
use Rattle.std.specs.List.{starts_with}
use Rattle.wasm_grammar.specs.Ids.{function_id, code_id, data_id, data_count_id}

-- the eight bytes of a header: the magic, and a version
abbrev pub header_bytes : Encoding → List ℕ
header_bytes Module = 0x00 ∷ 0x61 ∷ 0x73 ∷ 0x6d ∷ 0x01 ∷ 0x00 ∷ 0x00 ∷ 0x00 ∷ []
header_bytes Component = 0x00 ∷ 0x61 ∷ 0x73 ∷ 0x6d ∷ 0x0d ∷ 0x00 ∷ 0x01 ∷ 0x00 ∷ []

-- These bytes are the LEB128 encoding of a u32 with this value.
abbrev pub IsNumber : List ℕ → ℕ → Type 0
IsNumber field n = number VarU32 field ≡ read n (length field)

-- a size field and the bytes that it counts: those of a body, or a section's content
pub record Sized : Type 0 where
  pub field : List ℕ
  pub content : List ℕ

abbrev pub sized_bytes : Sized → List ℕ
sized_bytes s = s.field ++ s.content

abbrev pub IsSized : Sized → Type 0
IsSized s = IsNumber s.field (length s.content)

-- a section frame: its id, its length and its content
pub record SectionFrame : Type 0 where
  pub id : ℕ
  pub sized : Sized

abbrev pub frame_bytes : SectionFrame → List ℕ
frame_bytes f = f.id ∷ sized_bytes f.sized

-- The content of a code section is a count and as many bodies, with nothing after them.
pub record CodeDivision (content : List ℕ) : Type 0 where
  pub field : List ℕ
  pub bodies : List Sized
  pub whole : content ≡ field ++ flat_map sized_bytes bodies
  pub count : IsNumber field (length bodies)
  pub each : All IsSized bodies

-- The content starts with the fields of its form. Content that is a single number ends after it.
abbrev pub IsFormed : Form → List ℕ → Type 0
IsFormed custom content = (text : List ℕ) × (used : ℕ) × (name (Some name_limit) content ≡ named text used)
IsFormed items content = (n : ℕ) × (used : ℕ) × (number VarU32 content ≡ read n used)
IsFormed index content = (n : ℕ) × IsNumber content n
IsFormed data_count content = (n : ℕ) × IsNumber content n
IsFormed unknown content = Unit {0}

-- The content of a section of this kind is well-formed, apart from its items.
abbrev pub IsGood : Kind → List ℕ → Type 0
IsGood (whole form) content = IsFormed form content
IsGood code content = CodeDivision content

-- The frame is that of a well-formed section. Ids have seven bits.
pub record IsFrame (encoding : Encoding) (f : SectionFrame) : Type 0 where
  pub id : f.id < 128
  pub sized : IsSized f.sized
  pub content : IsGood (kind_of encoding f.id) f.sized.content

-- the count or index at the start of a section's content
abbrev pub frame_count : SectionFrame → ℕ
frame_count f = count_of f.sized.content

-- the rank of a section, or 0 if it may come anywhere
abbrev pub frame_rank : Encoding → SectionFrame → ℕ
frame_rank encoding f = rank_of (kind_of encoding f.id) f.id

-- The stream is a module, and the section has this id.
abbrev pub IsSection : Encoding → ℕ → SectionFrame → Type 0
IsSection encoding id f = (encoding ≡ Module) × (f.id ≡ id)

-- The section may follow these earlier ones. If it has a rank, that is above the rank of each of them. A code section
-- has as many bodies as the function section has functions, and a data section as many segments as a data count section
-- announces.
pub record FitsAfter (encoding : Encoding) (earlier : List SectionFrame) (f : SectionFrame) : Type 0 where
  pub ranks : 0 < frame_rank encoding f → All (λ g. frame_rank encoding g < frame_rank encoding f) earlier
  pub bodies : IsSection encoding code_id f → All (λ g. IsSection encoding function_id g → frame_count g
      ≡ frame_count f) earlier
  pub functions : IsSection encoding code_id f → Any (IsSection encoding function_id) earlier ⊎ (frame_count f ≡ 0)
  pub segments : IsSection encoding data_id f → All (λ g. IsSection encoding data_count_id g → frame_count g
      ≡ frame_count f) earlier

-- If a section with this id has a count above 0, there is a section with the other id.
abbrev pub IsMatched : Encoding → (id other : ℕ) → List SectionFrame → Type 0
IsMatched encoding id other frames = All (λ f. IsSection encoding id f → 0 < frame_count f
    → Any (IsSection encoding other) frames) frames

-- | an accepted stream, as the standard has it: a header, and then sections of an id, a length and content that fits
--   its kind. Their ranks ascend and their counts agree; code is divided into its bodies and nothing else <Modules,
--   Sections; Code Section>
-- The stream is accepted: it is a header and well-formed sections in their order. Functions have a code section, and
-- announced data segments a data section.
pub record IsAccepted (stream : List ℕ) : Type 0 where
  pub encoding : Encoding
  pub frames : List SectionFrame
  pub whole : stream ≡ header_bytes encoding ++ flat_map frame_bytes frames
  pub each : All (IsFrame encoding) frames
  pub order : (earlier later : List SectionFrame) (f : SectionFrame) → frames ≡ earlier ++ f ∷ later
      → FitsAfter encoding earlier f
  pub functions : IsMatched encoding function_id code_id frames
  pub segments : IsMatched encoding data_count_id data_id frames

-- | whether bytes begin with a header <Modules>
abbrev pub begins_with_header : Encoding → List ℕ → Bool
begins_with_header encoding bytes = starts_with nat_eq bytes (header_bytes encoding)
