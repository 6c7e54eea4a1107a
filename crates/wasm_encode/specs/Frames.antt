-- Sections of counted items, as parts of a stream.
use Rattle.std.specs.Prelude.{◌≡◌, ℕ, ◌<◌, ◌^◌, ◌⊎◌, List, ◌++◌, length}
use Rattle.wasm_encode.specs.Numbers.{unsigned_bytes}
use Rattle.wasm_grammar.specs.Accepted.{SectionFrame, IsFrame}
use Rattle.wasm_grammar.specs.Content.{data_count, index, items, kind_of, whole}
use Rattle.wasm_grammar.specs.declared.encoding.Encoding.TheVariants.{Module}

-- a section with this id and content, with the shortest length
abbrev pub frame_of : (id : ℕ) → (content : List ℕ) → SectionFrame
frame_of id content = record { id = id; sized = record { field = unsigned_bytes (length content); content = content } }

-- | a section whose content is a count and anything is well-formed, and one that is a number [; `NumbersAreFrames`]
--   <Sections>
-- A section whose content is a count and anything is well-formed in modules, if sections with its id are of counted
-- items.
abbrev pub SectionsAreFrames : Type 0
SectionsAreFrames = (id count : ℕ) (rest : List ℕ) → id < 128 → kind_of Module id ≡ whole items → count < 2 ^ 32
    → length (unsigned_bytes count ++ rest) < 2 ^ 32 → IsFrame Module (frame_of id (unsigned_bytes count ++ rest))

-- A section that is one number is well-formed in modules, if sections with its id are an index or a count of data.
abbrev pub NumbersAreFrames : Type 0
NumbersAreFrames = (id n : ℕ) → id < 128 → (kind_of Module id ≡ whole index) ⊎ (kind_of Module id ≡ whole data_count)
    → n < 2 ^ 32 → IsFrame Module (frame_of id (unsigned_bytes n))
