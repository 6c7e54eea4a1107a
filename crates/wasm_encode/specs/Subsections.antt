-- The bytes of subsections. Core specification, Appendix, Custom Sections, Name Section, Subsections; tool conventions,
-- Linking, Linking Metadata Section.
use Rattle.std.specs.Prelude.{◌≡◌, ◌↔◌, ℕ, ◌+◌, ◌<◌, ◌^◌, List, [], ◌∷◌, ◌++◌, length, map, Result, Ok, All}
use Rattle.wasm_base.specs.FaultAt.{FaultAt}
use Rattle.wasm_base.specs.Outcome.{Outcome}
use Rattle.wasm_base.specs.Section.{ItemsOf, Section, as_read, section_after, section_in}
use Rattle.wasm_base.specs.Subsections.{SubsectionsOf, subsection_at}
use Rattle.wasm_base.specs.Window.{Place, Window, place, window_over}
use Rattle.wasm_encode.specs.Numbers.{unsigned_bytes}
use Rattle.wasm_encode.specs.ReadsBack.{spot}
use Rattle.wasm_encode.specs.Sections.{content_bytes, placed_items}

-- | a subsection: its id, the size of its content, and its content, as a section has them <Appendix, Name Section,
--   Subsections; tool conventions, Linking>
-- A section of counted items is such bytes, of their content: subsections are framed as sections are.
abbrev pub subsection_bytes : (id : ℕ) (content : List ℕ) → List ℕ
subsection_bytes id content = id ∷ (unsigned_bytes (length content) ++ content)

-- how many bytes a subsection with this content has, whatever its id
abbrev pub subsection_size : (content : List ℕ) → ℕ
subsection_size content = 1 + length (unsigned_bytes (length content) ++ content)

-- where the content is of a subsection at an offset
abbrev pub content_offset : (offset : ℕ) (content : List ℕ) → ℕ
content_offset offset content = offset + 1 + length (unsigned_bytes (length content))

-- the window of the content of a subsection at an offset
abbrev pub content_window : (features offset : ℕ) (content : List ℕ) → Window
content_window features offset content = window_over features (content_offset offset content) content

-- the section that the content of a subsection is, if it is a list: its reader is after the count
abbrev pub content_section : {T : Type 0} → (features offset : ℕ) → (encoded : T → List ℕ) → List T → Section
content_section features offset encoded xs = section_after
    (record (content_window features offset (content_bytes encoded xs)) {
      position = length (unsigned_bytes (length xs));
    })
    (length xs)

-- where the first of its items is
abbrev pub items_offset : {T : Type 0} → (offset : ℕ) → (encoded : T → List ℕ) → List T → ℕ
items_offset offset encoded xs = content_offset offset (content_bytes encoded xs) + length (unsigned_bytes (length xs))

-- | these bytes at an offset are read as a subsection with this id and the window of this content, whatever comes after
--   them [`content_window`] <Appendix, Name Section, Subsections>
-- A subsection at an offset is read as its id and the window of its content, whatever comes after it.
pub record IsSubsection (features offset id : ℕ) (content : List ℕ) : Type 0 where
  pub read : (later : List ℕ) → subsection_at (spot features offset (subsection_bytes id content ++ later))
      ≡ Ok (
        (id, content_window features offset content),
        spot features (offset + length (subsection_bytes id content)) later,
      )

-- The subsection of an item is read as its id and a window, and the window as the item, with nothing after it.
pub record ItemBack {T : Type 0} (meaning : Place → Outcome T → Type 0) (features offset id : ℕ) (encoded : T → List ℕ)
    (placed : ℕ → T → T) (x : T) : Type 0 where
  pub frame : IsSubsection features offset id (encoded x)
  pub item : meaning (spot features (content_offset offset (encoded x)) (encoded x))
      (Ok (
        placed (content_offset offset (encoded x)) x,
        spot features (content_offset offset (encoded x) + length (encoded x)) [],
      ))

-- The subsection of counted items is read as its id and a window, the window as a section, and that as these items,
-- with nothing after them.
pub record ListBack {T : Type 0} (meaning : Place → Outcome T → Type 0) (features offset id : ℕ) (encoded : T → List ℕ)
    (placed : ℕ → T → T) (xs : List T) : Type 0 where
  pub frame : IsSubsection features offset id (content_bytes encoded xs)
  pub section : section_in (content_window features offset (content_bytes encoded xs))
      ≡ Ok (content_section features offset encoded xs)
  pub items : ItemsOf meaning (length xs) (place (content_section features offset encoded xs).reader)
      (map as_read (placed_items encoded placed (items_offset offset encoded xs) xs))

-- | a subsection is read as its id and a window, and the window as the item, or the items, that were written
--   [`ItemBack`; `ListReadsBack`, `ListBack`]
-- The subsection of an item is read as it, at every offset and with every id below 128, by readers that allow the item.
abbrev pub ItemReadsBack : {T : Type 0} → (Place → Outcome T → Type 0) → (is_allowed : ℕ → T → Type 0)
    → (encoded : T → List ℕ) → (placed : ℕ → ℕ → T → T) → T → Type 0
ItemReadsBack meaning is_allowed encoded placed x = (features offset id : ℕ) → id < 128 → is_allowed features x
    → ItemBack meaning features offset id encoded (placed features) x

-- The subsection of counted items is read as them, at every offset and with every id below 128, by readers that allow
-- each item.
abbrev pub ListReadsBack : {T : Type 0} → (Place → Outcome T → Type 0) → (is_allowed : ℕ → T → Type 0)
    → (encoded : T → List ℕ) → (placed : ℕ → ℕ → T → T) → List T → Type 0
ListReadsBack meaning is_allowed encoded placed xs = (features offset id : ℕ) → id < 128 → All (is_allowed features) xs
    → ListBack meaning features offset id encoded (placed features) xs

-- subsections one after the other, each an id and a content
abbrev pub subsections_bytes : List (ℕ × List ℕ) → List ℕ
subsections_bytes [] = []
subsections_bytes (part ∷ parts) = subsection_bytes part.0 part.1 ++ subsections_bytes parts

-- The id of a subsection is below 128, and the size of its content is a u32.
abbrev pub PartFits : ℕ × List ℕ → Type 0
PartFits part = (part.0 < 128) × (length part.1 < 2 ^ 32)

-- Each of these is what the id and the window of its subsection mean, the first one at this offset.
abbrev pub MeansEach : {T : Type 0} → (ℕ → Window → Result T FaultAt → Type 0) → (features offset : ℕ)
    → List (ℕ × List ℕ) → List (Result T FaultAt) → Type 0
MeansEach meaning features offset [] [] = Unit {0}
MeansEach meaning features offset [] (x ∷ xs) = ⊥
MeansEach meaning features offset (part ∷ parts) [] = ⊥
MeansEach meaning features offset (part ∷ parts) (x ∷ xs) = meaning part.0 (content_window features offset part.1) x
    × MeansEach meaning features (offset + length (subsection_bytes part.0 part.1)) parts xs

-- | subsections that are written one after the other are read as each of them, in order [`subsections_bytes`,
--   `MeansEach`, `PartFits`] <Appendix, Name Section, Subsections; tool conventions, Linking>
-- What the subsections of such bytes come to is what the id and the window of each one mean, in order.
abbrev pub SubsectionsReadBack : {T : Type 0} → (ℕ → Window → Result T FaultAt → Type 0) → Type 0
SubsectionsReadBack {T} meaning = (features offset : ℕ) (parts : List (ℕ × List ℕ)) (given : List (Result T FaultAt))
    → All PartFits parts
    → SubsectionsOf meaning (spot features offset (subsections_bytes parts)) given
    ↔ MeansEach meaning features offset parts given
