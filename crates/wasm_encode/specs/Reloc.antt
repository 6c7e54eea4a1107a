-- The bytes of relocations. Tool conventions, Linking, Relocation Sections.
use Rattle.std.specs.Prelude.{◌≡◌, ℕ, ◌+◌, ◌<◌, ◌^◌, ℤ, pos, List, [], ◌∷◌, ◌++◌, length, map, Ok}
use Rattle.wasm_base.specs.Item.{ReadsAs}
use Rattle.wasm_base.specs.Section.{ItemsOf, Section, as_read, section_after}
use Rattle.wasm_base.specs.Signed.{FitsBits}
use Rattle.wasm_base.specs.Window.{Window, place, range_of, window_over}
use Rattle.wasm_custom.specs.Reloc.{addend_of, number_of, reloc_section_in, relocation_at}
use Rattle.wasm_custom.specs.declared.reloc.RelocAddendKind.{RelocAddendKind}
use Rattle.wasm_custom.specs.declared.reloc.RelocAddendKind.TheVariants as Addends
use Rattle.wasm_custom.specs.declared.reloc.RelocationEntry.{RelocationEntry}
use Rattle.wasm_encode.specs.Numbers.{signed_bytes, unsigned_bytes}
use Rattle.wasm_encode.specs.Sections.{SectionFits, content_bytes}

-- an addend: no bytes, or a signed number
abbrev pub addend_bytes : RelocAddendKind → ℤ → List ℕ
addend_bytes Addends.None addend = []
addend_bytes Addends.Addend32 addend = signed_bytes addend
addend_bytes Addends.Addend64 addend = signed_bytes addend

-- An addend that has no bytes is 0. Any other one fits in its number of bits.
abbrev pub AddendFits : RelocAddendKind → ℤ → Type 0
AddendFits Addends.None addend = addend ≡ pos 0
AddendFits Addends.Addend32 addend = FitsBits 32 addend
AddendFits Addends.Addend64 addend = FitsBits 64 addend

-- | the bytes of a relocation: the number of its type, its offset, an index, and the addend that its type has; whether
--   it fits [`addend_bytes`; `RelocationFits`, `AddendFits`] <tool conventions, Linking, Relocation Sections>
-- a relocation: the number of its type, its offset, an index, and the addend that its type has
unfoldable pub relocation_bytes : RelocationEntry → List ℕ
relocation_bytes x = number_of x.ty
    ∷ (unsigned_bytes x.offset ++ (unsigned_bytes x.index ++ addend_bytes (addend_of x.ty) x.addend))

pub record RelocationFits (x : RelocationEntry) : Type 0 where
  pub offset : x.offset < 2 ^ 32
  pub index : x.index < 2 ^ 32
  pub addend : AddendFits (addend_of x.ty) x.addend

-- the relocations of a section: its index among all sections, and a list
abbrev pub reloc_bytes : (section : ℕ) → List RelocationEntry → List ℕ
reloc_bytes section xs = unsigned_bytes section ++ content_bytes relocation_bytes xs

abbrev pub RelocFits : List RelocationEntry → Type 0
RelocFits xs = SectionFits relocation_bytes RelocationFits xs

-- the window of relocations that are at an offset, and the section that their list is: its reader is after the count
abbrev pub reloc_window : (features offset section : ℕ) → List RelocationEntry → Window
reloc_window features offset section xs = window_over features offset (reloc_bytes section xs)

abbrev pub reloc_entries : (features offset section : ℕ) → List RelocationEntry → Section
reloc_entries features offset section xs = section_after
    (record (window_over features (offset + length (unsigned_bytes section)) (content_bytes relocation_bytes xs)) {
      position = length (unsigned_bytes (length xs));
    })
    (length xs)

-- | the relocations of a section, at an offset, are read as its index and exactly these relocations [`reloc_bytes`,
--   `RelocFits`] <tool conventions, Linking, Relocation Sections>
-- The relocations of a section are read as its index and a list, and that as exactly these relocations.
pub record RelocationsBack (features offset : ℕ) (index : ℕ) (xs : List RelocationEntry) : Type 0 where
  pub section : reloc_section_in (reloc_window features offset index xs)
      ≡ Ok (record {
        section = index;
        range = range_of (reloc_window features offset index xs);
        entries = reloc_entries features offset index xs;
      })
  pub entries : ItemsOf (ReadsAs (λ (x : RelocationEntry). x) relocation_at) (length xs)
      (place (reloc_entries features offset index xs).reader) (map as_read xs)
