-- The bytes of what a linker reads. Tool conventions, Linking, Linking Metadata Section.
use Rattle.std.specs.Prelude.{◌≡◌, ℕ, ◌+◌, ◌<◌, ◌^◌, List, [], ◌∷◌, ◌++◌, length, Ok, All}
use Rattle.wasm_base.specs.Inner.{after_reading}
use Rattle.wasm_base.specs.Outcome.{Outcome}
use Rattle.wasm_base.specs.Window.{Place}
use Rattle.wasm_custom.specs.Linking.{ComdatParts, SegmentParts, arch, comdat_symbol_at, linking_subsection_in, listed}
use Rattle.wasm_custom.specs.declared.linking.Comdat.{Comdat}
use Rattle.wasm_custom.specs.declared.linking.ComdatSymbol.{ComdatSymbol}
use Rattle.wasm_custom.specs.declared.linking.ComdatSymbolKind.{ComdatSymbolKind}
use Rattle.wasm_custom.specs.declared.linking.ComdatSymbolKind.TheVariants as Kinds
use Rattle.wasm_custom.specs.declared.linking.InitFunc.{InitFunc}
use Rattle.wasm_encode.specs.Lists.{IsList, list_bytes, list_placed}
use Rattle.wasm_encode.specs.Names.{name_bytes}
use Rattle.wasm_encode.specs.Numbers.{unsigned_bytes}
use Rattle.wasm_encode.specs.Sections.{content_bytes}
use Rattle.wasm_encode.specs.Subsections.{IsSubsection, ListBack, content_section, content_window}
use Rattle.wasm_encode.specs.Texts.{TextFits}

-- | the bytes of a segment, a function that is called at startup, and a comdat and its symbols, which are a list that
--   is copied; what of them fits [`segment_bytes`, `init_function_bytes`, `comdat_bytes`, `comdat_symbol_bytes`,
--   `comdat_kind_byte`; `SegmentFits`, `InitFunctionFits`, `ComdatFits`; `comdat_placed`] <tool conventions, Linking>
-- a segment: its name, its alignment and its flags (Segment Info Subsection)
unfoldable pub segment_bytes : SegmentParts → List ℕ
segment_bytes x = name_bytes x.name ++ (unsigned_bytes x.alignment ++ unsigned_bytes x.flags)

pub record SegmentFits (x : SegmentParts) : Type 0 where
  pub name : TextFits x.name
  pub alignment : x.alignment < 2 ^ 32
  pub flags : x.flags < 2 ^ 32
  pub short : length (segment_bytes x) < 2 ^ 32

-- a function that is called at startup: its priority and its symbol (Init Functions Subsection)
unfoldable pub init_function_bytes : InitFunc → List ℕ
init_function_bytes x = unsigned_bytes x.priority ++ unsigned_bytes x.symbol_index

pub record InitFunctionFits (x : InitFunc) : Type 0 where
  pub priority : x.priority < 2 ^ 32
  pub symbol : x.symbol_index < 2 ^ 32

-- a symbol of a comdat: its kind and its index (COMDAT Subsection)
abbrev pub comdat_kind_byte : ComdatSymbolKind → ℕ
comdat_kind_byte Kinds.Data = 0x00
comdat_kind_byte Kinds.Func = 0x01
comdat_kind_byte Kinds.Global = 0x02
comdat_kind_byte Kinds.Event = 0x03
comdat_kind_byte Kinds.Table = 0x04
comdat_kind_byte Kinds.Section = 0x05

unfoldable pub comdat_symbol_bytes : ComdatSymbol → List ℕ
comdat_symbol_bytes x = comdat_kind_byte x.kind ∷ unsigned_bytes x.index

-- a comdat: its name, its flags, and a list of symbols, whose bytes are copied (COMDAT Subsection)
unfoldable pub comdat_bytes : ComdatParts → List ℕ
comdat_bytes x = name_bytes x.name ++ (unsigned_bytes x.flags ++ list_bytes x.symbols)

pub record ComdatFits (x : ComdatParts) : Type 0 where
  pub name : TextFits x.name
  pub flags : x.flags < 2 ^ 32
  pub symbols : IsList (after_reading comdat_symbol_at) x.symbols
  pub short : length (comdat_bytes x) < 2 ^ 32

-- the comdat as it is read with these features at an offset: the window of its symbols is there
abbrev pub comdat_placed : (features offset : ℕ) → Comdat → Comdat
comdat_placed features offset x = record {
  name = x.name;
  flags = x.flags;
  symbols = list_placed features (offset + length (name_bytes x.name.now) + length (unsigned_bytes x.flags)) x.symbols;
}

-- ---- subsections

-- the ids of the subsections that are lists: of segments, startup functions, comdats and symbols
abbrev pub list_ids : List ℕ
list_ids = 5 ∷ 6 ∷ 7 ∷ 8 ∷ []

-- | a subsection of `linking` that is a list is read as its id and exactly its items; that of an architecture as its
--   name [`LinkingReadsBack`, `list_ids`; `ArchBack`] <tool conventions, Linking>
-- A subsection that is a list is read as exactly these items, and for each id of a list as this list.
pub record LinkingListBack {T : Type 0} (meaning : Place → Outcome T → Type 0) (features offset : ℕ)
    (encoded : T → List ℕ) (placed : ℕ → T → T) (xs : List T) : Type 0 where
  pub list : (id : ℕ) → id < 128 → ListBack meaning features offset id encoded placed xs
  pub read : All (λ id. linking_subsection_in id (content_window features offset (content_bytes encoded xs))
      ≡ Ok (listed id (content_section features offset encoded xs))) list_ids

-- This is so at every offset, by readers that allow each item.
abbrev pub LinkingReadsBack : {T : Type 0} → (Place → Outcome T → Type 0) → (is_allowed : ℕ → T → Type 0)
    → (encoded : T → List ℕ) → (placed : ℕ → ℕ → T → T) → List T → Type 0
LinkingReadsBack meaning is_allowed encoded placed xs = (features offset : ℕ) → All (is_allowed features) xs
    → LinkingListBack meaning features offset encoded (placed features) xs

-- The subsection of an architecture is read as its name.
pub record ArchBack (features offset : ℕ) (name : List ℕ) : Type 0 where
  pub frame : IsSubsection features offset 9 (name_bytes name)
  pub read : linking_subsection_in 9 (content_window features offset (name_bytes name)) ≡ Ok (arch name)
