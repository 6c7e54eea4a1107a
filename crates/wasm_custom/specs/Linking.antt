-- What a linker reads. Tool conventions, Linking, Linking Metadata Section.
use Rattle.std.specs.declared.ops.Range.{Range}
use Rattle.std.specs.Prelude.{ℕ, ◌==◌, ◌||◌, not, Bool, List, [], ◌∷◌, Option, Some, None, Result, Ok, Err}
use Rattle.std.specs.Prelude.{if◌then◌else◌}
use Rattle.wasm_base.specs.Bits.{has_bit}
use Rattle.wasm_base.specs.FaultAt.{FaultAt}
use Rattle.wasm_base.specs.Inner.{inner_section_at, after_reading}
use Rattle.wasm_base.specs.Leading.{leading_byte, lookup_or, in_table}
use Rattle.wasm_base.specs.Name.{byte_at, name_limit, text_at}
use Rattle.wasm_base.specs.Number.{unsigned_at}
use Rattle.wasm_base.specs.Outcome.{Outcome, ◌>>=◌}
use Rattle.wasm_base.specs.Section.{Section, section_in}
use Rattle.wasm_base.specs.Window.{Window, Place, place, whole_window, range_of, rest_range}
use Rattle.wasm_base.specs.declared.fault.Fault.TheVariants.{LinkingVersion}
use Rattle.wasm_base.specs.declared.fault.Lead.TheVariants as Leads
use Rattle.wasm_base.specs.declared.fault.NumberKind.TheVariants.{VarU32}
use Rattle.wasm_custom.specs.Flags.{symbol_bits, segment_bits}
use Rattle.wasm_custom.specs.declared.linking.Comdat.{Comdat}
use Rattle.wasm_custom.specs.declared.linking.ComdatSymbol.{ComdatSymbol}
use Rattle.wasm_custom.specs.declared.linking.ComdatSymbolKind.{ComdatSymbolKind}
use Rattle.wasm_custom.specs.declared.linking.ComdatSymbolKind.TheVariants as Kinds
use Rattle.wasm_custom.specs.declared.linking.DefinedDataSymbol.{DefinedDataSymbol}
use Rattle.wasm_custom.specs.declared.linking.InitFunc.{InitFunc}
use Rattle.wasm_custom.specs.declared.linking.Linking.{Linking}
use Rattle.wasm_custom.specs.declared.linking.Linking.TheVariants as Linkings
use Rattle.wasm_custom.specs.declared.linking.Segment.{Segment}
use Rattle.wasm_custom.specs.declared.linking.SymbolInfo.{SymbolInfo}
use Rattle.wasm_custom.specs.declared.linking.SymbolInfo.TheVariants as Symbols

-- a segment, with the bytes of its name and its flags
pub record SegmentParts : Type 0 where
  pub name : List ℕ
  pub alignment : ℕ
  pub flags : ℕ

abbrev pub segment_parts : Segment → SegmentParts
segment_parts segment = record {
  name = segment.name.now;
  alignment = segment.alignment;
  flags = segment_bits segment.flags;
}

-- | a segment, an init function, a comdat and its symbols [`init_function_at`, `comdat_at`, `comdat_symbol_at`,
--   `comdat_kinds`] <tool conventions, Linking>
-- a segment: a name, an alignment as a power of two, and flags (Segment Info Subsection)
unfoldable pub segment_at : Place → Outcome SegmentParts
segment_at p = do
  name ← text_at None p
  alignment ← unsigned_at VarU32 name.1
  flags ← unsigned_at VarU32 alignment.1
  Ok (record { name = name.0; alignment = alignment.0; flags = flags.0 }, flags.1)

-- a function that is called at startup: its priority and its symbol's index (Init Functions Subsection)
unfoldable pub init_function_at : Place → Outcome InitFunc
init_function_at p = do
  priority ← unsigned_at VarU32 p
  symbol ← unsigned_at VarU32 priority.1
  Ok (record { priority = priority.0; symbol_index = symbol.0 }, symbol.1)

-- the kind of a comdat's symbol that each byte encodes (COMDAT Subsection)
abbrev pub comdat_kinds : List (ℕ × ComdatSymbolKind)
comdat_kinds =
    (0, Kinds.Data) ∷ (1, Kinds.Func) ∷ (2, Kinds.Global) ∷ (3, Kinds.Event) ∷ (4, Kinds.Table)
    ∷ (5, Kinds.Section) ∷ []

-- a kind: a byte
abbrev pub comdat_kind_at : Place → Outcome ComdatSymbolKind
comdat_kind_at = in_table Leads.ComdatSymbol comdat_kinds

-- a symbol of a comdat: a kind and an index
unfoldable pub comdat_symbol_at : Place → Outcome ComdatSymbol
comdat_symbol_at p = do
  kind ← comdat_kind_at p
  index ← unsigned_at VarU32 kind.1
  Ok (record { kind = kind.0; index = index.0 }, index.1)

-- a comdat, with the bytes of its name
pub record ComdatParts : Type 0 where
  pub name : List ℕ
  pub flags : ℕ
  pub symbols : Section

abbrev pub comdat_parts : Comdat → ComdatParts
comdat_parts comdat = record { name = comdat.name.now; flags = comdat.flags; symbols = comdat.symbols }

-- a comdat: a name, flags, and symbols, which are skipped (COMDAT Subsection)
unfoldable pub comdat_at : Place → Outcome ComdatParts
comdat_at p = do
  name ← text_at None p
  flags ← unsigned_at VarU32 name.1
  symbols ← inner_section_at (after_reading comdat_symbol_at) flags.1
  Ok (record { name = name.0; flags = flags.0; symbols = symbols.0 }, symbols.1)

-- | whether a symbol is defined elsewhere, and whether its name is present; where the data of a symbol is; a symbol,
--   by its kind and flags [`has_explicit_name`, `is_named`, `defined_data_at`, `symbol_at`] <tool conventions,
--   Linking, Symbol Table Subsection>
-- whether a symbol is not defined here
abbrev pub is_undefined : (flags : ℕ) → Bool
is_undefined flags = has_bit flags 4

-- whether a symbol has a name of its own, and not that of what it imports
abbrev pub has_explicit_name : (flags : ℕ) → Bool
has_explicit_name flags = has_bit flags 6

-- whether a symbol's name is present
abbrev pub is_named : (flags : ℕ) → Bool
is_named flags = not (is_undefined flags) || has_explicit_name flags

abbrev pub some_text_at : Place → Outcome (Option (List ℕ))
some_text_at p = do
  name ← text_at None p
  Ok (Some name.0, name.1)

-- the name of a symbol, if present
unfoldable pub symbol_name_at : (flags : ℕ) → Place → Outcome (Option (List ℕ))
symbol_name_at flags p = if is_named flags then some_text_at p else Ok (None, p)

-- the bytes of a text, if any
abbrev pub text_if_any : {X : Type 0} → Option X → (X → List ℕ) → Option (List ℕ)
text_if_any None bytes_of = None
text_if_any (Some text) bytes_of = Some (bytes_of text)

-- the location of a data symbol: a segment's index, an offset in it and a size
unfoldable pub defined_data_at : Place → Outcome DefinedDataSymbol
defined_data_at p = do
  index ← unsigned_at VarU32 p
  offset ← unsigned_at VarU32 index.1
  size ← unsigned_at VarU32 offset.1
  Ok (record { index = index.0; offset = offset.0; size = size.0 }, size.1)

abbrev pub some_data_at : Place → Outcome (Option DefinedDataSymbol)
some_data_at p = do
  symbol ← defined_data_at p
  Ok (Some symbol.0, symbol.1)

-- the location of a data symbol, if it is defined here
unfoldable pub data_place_at : (flags : ℕ) → Place → Outcome (Option DefinedDataSymbol)
data_place_at flags p = if is_undefined flags then Ok (None, p) else some_data_at p

-- a symbol, with its flags and the bytes of its name; those with an index by the byte of their kind
pub data SymbolParts : Type 0 where
  indexed : (kind flags index : ℕ) (name : Option (List ℕ)) → SymbolParts
  data_symbol : (flags : ℕ) (name : List ℕ) (symbol : Option DefinedDataSymbol) → SymbolParts
  section_symbol : (flags section : ℕ) → SymbolParts

abbrev pub symbol_parts : SymbolInfo → SymbolParts
symbol_parts (Symbols.Func flags index name) = indexed 0 (symbol_bits flags) index (text_if_any name (λ text. text.now))
symbol_parts (Symbols.Global flags index name) = indexed 2 (symbol_bits flags) index
    (text_if_any name (λ text. text.now))
symbol_parts (Symbols.Event flags index name) = indexed 4 (symbol_bits flags) index
    (text_if_any name (λ text. text.now))
symbol_parts (Symbols.Table flags index name) = indexed 5 (symbol_bits flags) index
    (text_if_any name (λ text. text.now))
symbol_parts (Symbols.Data flags name symbol) = data_symbol (symbol_bits flags) name.now symbol
symbol_parts (Symbols.Section flags section) = section_symbol (symbol_bits flags) section

-- the index of a symbol, and its name, if present
unfoldable pub index_and_name_at : (flags : ℕ) → Place → Outcome (ℕ × Option (List ℕ))
index_and_name_at flags p = do
  index ← unsigned_at VarU32 p
  name ← symbol_name_at flags index.1
  Ok ((index.0, name.0), name.1)

abbrev pub indexed_symbol_at : (kind flags : ℕ) → Place → Outcome SymbolParts
indexed_symbol_at kind flags p = do
  symbol ← index_and_name_at flags p
  Ok (indexed kind flags symbol.0.0 symbol.0.1, symbol.1)

abbrev pub data_symbol_at : (flags : ℕ) → Place → Outcome SymbolParts
data_symbol_at flags p = do
  name ← text_at None p
  symbol ← data_place_at flags name.1
  Ok (data_symbol flags name.0 symbol.0, symbol.1)

abbrev pub section_symbol_at : (flags : ℕ) → Place → Outcome SymbolParts
section_symbol_at flags p = do
  section ← unsigned_at VarU32 p
  Ok (section_symbol flags section.0, section.1)

-- a symbol after its kind and flags; the fault of another kind is at the kind
abbrev pub symbol_after : (start kind flags : ℕ) → Place → Outcome SymbolParts
symbol_after start kind = lookup_or (λ flags p. Err (leading_byte Leads.Symbol kind start))
    ((0, indexed_symbol_at 0) ∷ (1, data_symbol_at) ∷ (2, indexed_symbol_at 2) ∷ (3, section_symbol_at)
    ∷ (4, indexed_symbol_at 4) ∷ (5, indexed_symbol_at 5) ∷ []) kind

-- a symbol: a kind, flags, and what its kind has (Symbol Table Subsection)
unfoldable pub symbol_at : Place → Outcome SymbolParts
symbol_at p = do
  kind ← byte_at p
  flags ← unsigned_at VarU32 kind.1
  symbol_after p.offset kind.0 flags.0 flags.1

-- a subsection for linkers, with the bytes of its text; those that are lists by their id
pub data LinkingParts : Type 0 where
  listed : (id : ℕ) (section : Section) → LinkingParts
  arch : (text : List ℕ) → LinkingParts
  unknown : (id : ℕ) (contents : List ℕ) (range : Range ℕ) → LinkingParts

abbrev pub linking_parts : Linking → LinkingParts
linking_parts (Linkings.SegmentInfo segments) = listed 5 segments
linking_parts (Linkings.InitFuncs functions) = listed 6 functions
linking_parts (Linkings.ComdatInfo comdats) = listed 7 comdats
linking_parts (Linkings.SymbolTable symbols) = listed 8 symbols
linking_parts (Linkings.TargetArch name) = arch name.now
linking_parts (Linkings.Unknown id contents range) = unknown id contents.now range

abbrev pub listed_in : (id : ℕ) → Window → Result LinkingParts FaultAt
listed_in id w = do
  section ← section_in w
  Ok (listed id section)

abbrev pub arch_in : Window → Result LinkingParts FaultAt
arch_in w = do
  name ← text_at (Some name_limit) (place w)
  Ok (arch name.0)

-- | a subsection of `linking`, by its id; the section: version 2, and subsections [`linking_in`] <tool conventions,
--   Linking, Linking Metadata Section>
-- a subsection for linkers, by its id; bytes after the name of an architecture are ignored
unfoldable pub linking_subsection_in : (id : ℕ) → Window → Result LinkingParts FaultAt
linking_subsection_in id = lookup_or (λ w. Ok (unknown id (place w).rest (rest_range w)))
    ((5, listed_in 5) ∷ (6, listed_in 6) ∷ (7, listed_in 7) ∷ (8, listed_in 8) ∷ (9, arch_in) ∷ []) id

-- the section for linkers: its version, its offsets, and the window of its subsections
pub record LinkingSection : Type 0 where
  pub version : ℕ
  pub range : Range ℕ
  pub subsections : Window

-- the section for linkers: version 2, and subsections; any other version is a fault at it, with it as the number
unfoldable pub linking_in : Window → Result LinkingSection FaultAt
linking_in w = do
  version ← unsigned_at VarU32 (place w)
  if version.0 == 2
      then Ok (record { version = version.0; range = range_of w; subsections = whole_window version.1 })
      else Err (record { fault = LinkingVersion; offset = (place w).offset; number = Some version.0 })
