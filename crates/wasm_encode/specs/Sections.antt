-- The bytes of sections, and what their items are read as. Core specification, Binary format, Modules, Sections.
use Rattle.std.specs.Prelude.{◌≡◌, ℕ, ◌+◌, ◌<◌, ◌^◌, List, [], ◌∷◌, ◌++◌, length, Ok, map, All}
use Rattle.wasm_base.specs.Number.{unsigned_at}
use Rattle.wasm_base.specs.Outcome.{Outcome}
use Rattle.wasm_base.specs.Section.{ItemsOf, as_read}
use Rattle.wasm_base.specs.Window.{Place}
use Rattle.wasm_base.specs.declared.fault.NumberKind.TheVariants.{VarU32}
use Rattle.wasm_encode.specs.Numbers.{unsigned_bytes}
use Rattle.wasm_encode.specs.ReadsBack.{spot, Encodes}

-- items one after the other
abbrev pub items_bytes : {T : Type 0} → (T → List ℕ) → List T → List ℕ
items_bytes encoded [] = []
items_bytes encoded (x ∷ xs) = encoded x ++ items_bytes encoded xs

-- the content of a section: how many items it has, and the items
abbrev pub content_bytes : {T : Type 0} → (T → List ℕ) → List T → List ℕ
content_bytes encoded xs = unsigned_bytes (length xs) ++ items_bytes encoded xs

-- | a section of counted items: its id, its length, how many items it has, and the items; whether it fits
--   [`SectionFits`, `ListFits`] <Sections>
-- a section: its id, its length, its content
abbrev pub section_bytes : {T : Type 0} → (T → List ℕ) → (id : ℕ) → List T → List ℕ
section_bytes encoded id xs = id ∷ (unsigned_bytes (length (content_bytes encoded xs)) ++ content_bytes encoded xs)

-- | a section that is one number: its id, its length and the number <Start Section; Data Count Section>
abbrev pub number_section_bytes : (id n : ℕ) → List ℕ
number_section_bytes id n = id ∷ (unsigned_bytes (length (unsigned_bytes n)) ++ unsigned_bytes n)

-- Each item fits, their number is a u32, and the count and the items have fewer bytes than this.
pub record ListFits {T : Type 0} (bound : ℕ) (encoded : T → List ℕ) (is_encodable : T → Type 0) (xs : List T)
    : Type 0 where
  pub each : All is_encodable xs
  pub few : length xs < 2 ^ 32
  pub short : length (content_bytes encoded xs) < bound

-- Each item fits, and their number and the length of the content are u32.
abbrev pub SectionFits : {T : Type 0} → (T → List ℕ) → (is_encodable : T → Type 0) → List T → Type 0
SectionFits encoded is_encodable xs = ListFits (2 ^ 32) encoded is_encodable xs

-- the items as they are read, the first one at this offset
abbrev pub placed_items : {T : Type 0} → (T → List ℕ) → (placed : ℕ → T → T) → (offset : ℕ) → List T → List T
placed_items encoded placed offset [] = []
placed_items encoded placed offset (x ∷ xs) =
    placed offset x ∷ placed_items encoded placed (offset + length (encoded x)) xs

-- | the content of a section is read as its count and exactly these items, with nothing after them
-- The content of a section, at an offset, is read as its count and exactly these items, with nothing after them.
pub record ItemsBack {T : Type 0} (meaning : Place → Outcome T → Type 0) (features offset : ℕ) (encoded : T → List ℕ)
    (placed : ℕ → T → T) (xs : List T) : Type 0 where
  pub count : unsigned_at VarU32 (spot features offset (content_bytes encoded xs))
      ≡ Ok (length xs, spot features (offset + length (unsigned_bytes (length xs))) (items_bytes encoded xs))
  pub items : ItemsOf meaning (length xs)
      (spot features (offset + length (unsigned_bytes (length xs))) (items_bytes encoded xs))
      (map as_read (placed_items encoded placed (offset + length (unsigned_bytes (length xs))) xs))

-- The bytes of an item are read as the item by readers that allow it.
abbrev pub IsReadBack : {T : Type 0} → (Place → Outcome T → Type 0) → (T → List ℕ) → (is_allowed : ℕ → T → Type 0)
    → (placed : ℕ → ℕ → T → T) → T → Type 0
IsReadBack meaning encoded is_allowed placed x = (features : ℕ) → is_allowed features x
    → Encodes meaning features (λ (offset : ℕ). placed features offset x) (encoded x)
