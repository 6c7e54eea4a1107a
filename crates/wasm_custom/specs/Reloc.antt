-- Relocations. Tool conventions, Linking, Relocation Sections.
use Rattle.std.specs.declared.ops.Range.{Range}
use Rattle.std.specs.Prelude.{◌≡◌, ◌↔◌, ℕ, ◌+◌, ◌-◌, ◌<◌, ℤ, pos, List, [], ◌∷◌, slice_get, Option, Some, None, Result}
use Rattle.std.specs.Prelude.{Ok, Err, IsOk, IfOk}
use Rattle.wasm_base.specs.FaultAt.{FaultAt}
use Rattle.wasm_base.specs.Leading.{or_leading}
use Rattle.wasm_base.specs.Name.{byte_at}
use Rattle.wasm_base.specs.Number.{unsigned_at}
use Rattle.wasm_base.specs.Outcome.{Outcome, ◌>>=◌}
use Rattle.wasm_base.specs.Section.{section_in}
use Rattle.wasm_base.specs.Signed.{signed_at}
use Rattle.wasm_base.specs.Window.{Window, Place, place, whole_window, range_of}
use Rattle.wasm_base.specs.declared.fault.Lead.TheVariants as Leads
use Rattle.wasm_base.specs.declared.fault.NumberKind.TheVariants.{VarU32, VarI32, VarI64}
use Rattle.wasm_custom.specs.declared.reloc.RelocAddendKind.{RelocAddendKind}
use Rattle.wasm_custom.specs.declared.reloc.RelocAddendKind.TheVariants as Addends
use Rattle.wasm_custom.specs.declared.reloc.RelocSectionReader.{RelocSectionReader}
use Rattle.wasm_custom.specs.declared.reloc.RelocationEntry.{RelocationEntry}
use Rattle.wasm_custom.specs.declared.reloc.RelocationType.{RelocationType}
use Rattle.wasm_custom.specs.declared.reloc.RelocationType.TheVariants.{FunctionIndexLeb, TableIndexSleb, TableIndexI32}
use Rattle.wasm_custom.specs.declared.reloc.RelocationType.TheVariants.{MemoryAddrLeb, MemoryAddrSleb, MemoryAddrI32}
use Rattle.wasm_custom.specs.declared.reloc.RelocationType.TheVariants.{TypeIndexLeb, GlobalIndexLeb, FunctionOffsetI32}
use Rattle.wasm_custom.specs.declared.reloc.RelocationType.TheVariants.{SectionOffsetI32, EventIndexLeb}
use Rattle.wasm_custom.specs.declared.reloc.RelocationType.TheVariants.{MemoryAddrRelSleb, TableIndexRelSleb}
use Rattle.wasm_custom.specs.declared.reloc.RelocationType.TheVariants.{GlobalIndexI32, MemoryAddrLeb64}
use Rattle.wasm_custom.specs.declared.reloc.RelocationType.TheVariants.{MemoryAddrSleb64, MemoryAddrI64}
use Rattle.wasm_custom.specs.declared.reloc.RelocationType.TheVariants.{MemoryAddrRelSleb64, TableIndexSleb64}
use Rattle.wasm_custom.specs.declared.reloc.RelocationType.TheVariants.{TableIndexI64, TableNumberLeb}
use Rattle.wasm_custom.specs.declared.reloc.RelocationType.TheVariants.{MemoryAddrTlsSleb, FunctionOffsetI64}
use Rattle.wasm_custom.specs.declared.reloc.RelocationType.TheVariants.{MemoryAddrLocrelI32, TableIndexRelSleb64}
use Rattle.wasm_custom.specs.declared.reloc.RelocationType.TheVariants.{MemoryAddrTlsSleb64, FunctionIndexI32}

-- a type's number, its addend, and the size of its place in bytes
pub record Row : Type 0 where
  pub number : ℕ
  pub addend : RelocAddendKind
  pub extent : ℕ

abbrev pub listed : (number : ℕ) → RelocAddendKind → (extent : ℕ) → Row
listed number addend extent = record { number = number; addend = addend; extent = extent }

-- | a type of relocations: its number, its addend, the bytes that it patches; the types in the order of their numbers
--   [`types`, `IsTypeOf`] <tool conventions, Linking, Relocation Sections>
-- the table of types
abbrev pub row_of : RelocationType → Row
row_of FunctionIndexLeb = listed 0 Addends.None 5
row_of TableIndexSleb = listed 1 Addends.None 5
row_of TableIndexI32 = listed 2 Addends.None 4
row_of MemoryAddrLeb = listed 3 Addends.Addend32 5
row_of MemoryAddrSleb = listed 4 Addends.Addend32 5
row_of MemoryAddrI32 = listed 5 Addends.Addend32 4
row_of TypeIndexLeb = listed 6 Addends.None 5
row_of GlobalIndexLeb = listed 7 Addends.None 5
row_of FunctionOffsetI32 = listed 8 Addends.Addend32 4
row_of SectionOffsetI32 = listed 9 Addends.Addend32 4
row_of EventIndexLeb = listed 10 Addends.None 5
row_of MemoryAddrRelSleb = listed 11 Addends.Addend32 5
row_of TableIndexRelSleb = listed 12 Addends.None 5
row_of GlobalIndexI32 = listed 13 Addends.None 4
row_of MemoryAddrLeb64 = listed 14 Addends.Addend64 10
row_of MemoryAddrSleb64 = listed 15 Addends.Addend64 10
row_of MemoryAddrI64 = listed 16 Addends.Addend64 8
row_of MemoryAddrRelSleb64 = listed 17 Addends.Addend64 10
row_of TableIndexSleb64 = listed 18 Addends.None 10
row_of TableIndexI64 = listed 19 Addends.None 8
row_of TableNumberLeb = listed 20 Addends.None 5
row_of MemoryAddrTlsSleb = listed 21 Addends.Addend32 5
row_of FunctionOffsetI64 = listed 22 Addends.Addend64 8
row_of MemoryAddrLocrelI32 = listed 23 Addends.Addend32 4
row_of TableIndexRelSleb64 = listed 24 Addends.None 10
row_of MemoryAddrTlsSleb64 = listed 25 Addends.Addend64 10
row_of FunctionIndexI32 = listed 26 Addends.None 4

abbrev pub number_of : RelocationType → ℕ
number_of ty = (row_of ty).number

abbrev pub addend_of : RelocationType → RelocAddendKind
addend_of ty = (row_of ty).addend

abbrev pub extent_of : RelocationType → ℕ
extent_of ty = (row_of ty).extent

-- the types in the order of their numbers
abbrev pub types : List RelocationType
types =
    FunctionIndexLeb ∷ TableIndexSleb ∷ TableIndexI32 ∷ MemoryAddrLeb ∷ MemoryAddrSleb ∷ MemoryAddrI32 ∷ TypeIndexLeb
    ∷ GlobalIndexLeb ∷ FunctionOffsetI32
    ∷ SectionOffsetI32 ∷ EventIndexLeb ∷ MemoryAddrRelSleb ∷ TableIndexRelSleb ∷ GlobalIndexI32 ∷ MemoryAddrLeb64
    ∷ MemoryAddrSleb64 ∷ MemoryAddrI64
    ∷ MemoryAddrRelSleb64 ∷ TableIndexSleb64 ∷ TableIndexI64 ∷ TableNumberLeb ∷ MemoryAddrTlsSleb ∷ FunctionOffsetI64
    ∷ MemoryAddrLocrelI32
    ∷ TableIndexRelSleb64 ∷ MemoryAddrTlsSleb64 ∷ FunctionIndexI32 ∷ []

-- The result is the type of this number, and there is one exactly if the number is at most 26.
abbrev pub IsTypeOf : ℕ → Result RelocationType (Unit {0}) → Type 0
IsTypeOf number result = (IsOk result ↔ number < 27) × IfOk result (λ ty. number_of ty ≡ number)

-- a type: the byte of its number
unfoldable pub relocation_type_at : Place → Outcome RelocationType
relocation_type_at p = do
  byte ← byte_at p
  or_leading Leads.Reloc byte.0 (byte.1.offset - 1) (slice_get types byte.0) byte.1

-- an addend: none, which counts as 0, or a signed number of 32 or 64 bits
abbrev pub addend_at : RelocAddendKind → Place → Outcome ℤ
addend_at Addends.None p = Ok (pos 0, p)
addend_at Addends.Addend32 p = signed_at VarI32 p
addend_at Addends.Addend64 p = signed_at VarI64 p

-- | a relocation: a type, an offset, an index, the addend of its type; the bytes that it patches; a section of
--   relocations [`relocated_range`, `reloc_section_in`] <tool conventions, Linking, Relocation Sections>
-- a relocation: its type, an offset, an index, the addend that its type has
unfoldable pub relocation_at : Place → Outcome RelocationEntry
relocation_at p = do
  ty ← relocation_type_at p
  offset ← unsigned_at VarU32 ty.1
  index ← unsigned_at VarU32 offset.1
  addend ← addend_at (addend_of ty.0) index.1
  Ok (record { ty = ty.0; offset = offset.0; index = index.0; addend = addend.0 }, addend.1)

-- the bytes of a section that a relocation fills in
abbrev pub relocated_range : RelocationEntry → Range ℕ
relocated_range entry = record { start = entry.offset; end = entry.offset + extent_of entry.ty }

-- a section of relocations: the index of another section, and a window that begins with a count of relocations
unfoldable pub reloc_section_in : Window → Result RelocSectionReader FaultAt
reloc_section_in w = do
  section ← unsigned_at VarU32 (place w)
  entries ← section_in (whole_window section.1)
  Ok (record { section = section.0; range = range_of w; entries = entries })
