-- The bytes of what a dynamic linker reads. Tool conventions, Dynamic Linking, The "dylink.0" Section.
use Rattle.std.specs.Borrow.{Bor}
use Rattle.std.specs.Prelude.{◌≡◌, ℕ, ◌<◌, ◌^◌, List, ◌++◌, length, map, Ok}
use Rattle.wasm_custom.specs.Dylink0.{DylinkParts, ExportInfoParts, ImportInfoParts, arch, dylink_subsection_in}
use Rattle.wasm_custom.specs.Dylink0.{export_info_parts, exports, import_info_parts, imports, memory_info, texts}
use Rattle.wasm_custom.specs.declared.dylink0.ExportInfo.{ExportInfo}
use Rattle.wasm_custom.specs.declared.dylink0.ImportInfo.{ImportInfo}
use Rattle.wasm_custom.specs.declared.dylink0.MemInfo.{MemInfo}
use Rattle.wasm_encode.specs.Names.{NameFits, name_bytes}
use Rattle.wasm_encode.specs.Numbers.{unsigned_bytes}
use Rattle.wasm_encode.specs.Sections.{SectionFits, content_bytes}
use Rattle.wasm_encode.specs.Subsections.{IsSubsection, content_window}
use Rattle.wasm_encode.specs.Texts.{TextFits}

-- | the bytes of what a dynamic linker reads of memory, exports and imports; what of it fits [`mem_info_bytes`,
--   `export_info_bytes`, `import_info_bytes`; `MemInfoFits`, `ExportInfoFits`, `ImportInfoFits`] <tool conventions,
--   Dynamic Linking>
-- how much memory and table a library needs, each with its alignment
unfoldable pub mem_info_bytes : MemInfo → List ℕ
mem_info_bytes x = unsigned_bytes x.memory_size ++ (unsigned_bytes x.memory_alignment
    ++ (unsigned_bytes x.table_size ++ unsigned_bytes x.table_alignment))

pub record MemInfoFits (x : MemInfo) : Type 0 where
  pub size : x.memory_size < 2 ^ 32
  pub alignment : x.memory_alignment < 2 ^ 32
  pub table : x.table_size < 2 ^ 32
  pub table_alignment : x.table_alignment < 2 ^ 32

-- information about an export: its name and its flags
unfoldable pub export_info_bytes : ExportInfoParts → List ℕ
export_info_bytes x = name_bytes x.name ++ unsigned_bytes x.flags

pub record ExportInfoFits (x : ExportInfoParts) : Type 0 where
  pub name : TextFits x.name
  pub flags : x.flags < 2 ^ 32
  pub short : length (export_info_bytes x) < 2 ^ 32

-- information about an import: the names of its module and of itself, and its flags
unfoldable pub import_info_bytes : ImportInfoParts → List ℕ
import_info_bytes x = name_bytes x.from ++ (name_bytes x.field ++ unsigned_bytes x.flags)

pub record ImportInfoFits (x : ImportInfoParts) : Type 0 where
  pub from : TextFits x.from
  pub field : TextFits x.field
  pub flags : x.flags < 2 ^ 32
  pub short : length (import_info_bytes x) < 2 ^ 32

-- ---- subsections

-- | a subsection with this id and this content is read as its id and exactly these parts; those of memory, of names, of
--   exports, of imports, and of an architecture [`MemInfoBack`, `LibraryNamesBack`, `ExportInfosBack`,
--   `ImportInfosBack`, `ArchBack`; `LibraryNamesFit`, `ExportInfosFit`, `ImportInfosFit`] <tool conventions, Dynamic
--   Linking>
-- A subsection with this id and this content is read as its id and a window, and the window as these parts.
pub record DylinkBack (features offset id : ℕ) (content : List ℕ) (parts : DylinkParts) : Type 0 where
  pub frame : IsSubsection features offset id content
  pub read : dylink_subsection_in id (content_window features offset content) ≡ Ok parts

abbrev pub MemInfoBack : (features offset : ℕ) → MemInfo → Type 0
MemInfoBack features offset x = DylinkBack features offset 1 (mem_info_bytes x) (memory_info x)

-- names of libraries that are needed, with the id 2, or of directories, with the id 5
abbrev pub names_content : List (Bor (List ℕ)) → List ℕ
names_content names = content_bytes (λ name. name_bytes name.now) names

abbrev pub LibraryNamesFit : List (Bor (List ℕ)) → Type 0
LibraryNamesFit names = SectionFits (λ name. name_bytes name.now) (λ name. NameFits name.now) names

abbrev pub LibraryNamesBackWith : (id : ℕ) → (features offset : ℕ) → List (Bor (List ℕ)) → Type 0
LibraryNamesBackWith id features offset names =
    DylinkBack features offset id (names_content names) (texts id (map (λ name. name.now) names))

abbrev pub LibraryNamesBack : (features offset : ℕ) → List (Bor (List ℕ)) → Type 0
LibraryNamesBack features offset names =
    LibraryNamesBackWith 2 features offset names × LibraryNamesBackWith 5 features offset names

abbrev pub ExportInfosFit : List ExportInfo → Type 0
ExportInfosFit infos =
    SectionFits (λ x. export_info_bytes (export_info_parts x)) (λ x. ExportInfoFits (export_info_parts x)) infos

abbrev pub ExportInfosBack : (features offset : ℕ) → List ExportInfo → Type 0
ExportInfosBack features offset infos =
    DylinkBack features offset 3 (content_bytes (λ x. export_info_bytes (export_info_parts x)) infos)
    (exports (map export_info_parts infos))

abbrev pub ImportInfosFit : List ImportInfo → Type 0
ImportInfosFit infos =
    SectionFits (λ x. import_info_bytes (import_info_parts x)) (λ x. ImportInfoFits (import_info_parts x)) infos

abbrev pub ImportInfosBack : (features offset : ℕ) → List ImportInfo → Type 0
ImportInfosBack features offset infos =
    DylinkBack features offset 4 (content_bytes (λ x. import_info_bytes (import_info_parts x)) infos)
    (imports (map import_info_parts infos))

abbrev pub ArchBack : (features offset : ℕ) → (name : List ℕ) → Type 0
ArchBack features offset name = DylinkBack features offset 6 (name_bytes name) (arch name)
