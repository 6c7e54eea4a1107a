-- The bytes of symbols. Tool conventions, Linking, Symbol Table Subsection.
use Rattle.std.specs.Borrow.{Bor}
use Rattle.std.specs.Prelude.{◌≡◌, ℕ, ◌<◌, ◌^◌, true, false, List, [], ◌∷◌, ◌++◌, length, Option, Some, None}
use Rattle.wasm_custom.specs.Linking.{SymbolParts, is_named, is_undefined, text_if_any}
use Rattle.wasm_custom.specs.Linking.{indexed, data_symbol, section_symbol}
use Rattle.wasm_custom.specs.declared.linking.DefinedDataSymbol.{DefinedDataSymbol}
use Rattle.wasm_encode.specs.Names.{name_bytes}
use Rattle.wasm_encode.specs.Numbers.{unsigned_bytes}
use Rattle.wasm_encode.specs.Texts.{TextFits}

-- the bytes of a name, if there is one
abbrev pub texts : Option (Bor (List ℕ)) → Option (List ℕ)
texts name = text_if_any name (λ text. text.now)

-- Its size is a u32, if there is one.
abbrev pub IsShort : Option (List ℕ) → Type 0
IsShort None = Unit {0}
IsShort (Some text) = length text < 2 ^ 32

-- a name with its size, if there is one
abbrev pub maybe_name : Option (List ℕ) → List ℕ
maybe_name None = []
maybe_name (Some text) = name_bytes text

-- A name is there exactly if the flags of the symbol say so, and its size is a u32.
abbrev pub NameMatches : (flags : ℕ) → Option (List ℕ) → Type 0
NameMatches flags None = is_named flags ≡ false
NameMatches flags (Some text) = (is_named flags ≡ true) × TextFits text

-- the location of data: the index of its segment, an offset in it, and a size
unfoldable pub place_bytes : DefinedDataSymbol → List ℕ
place_bytes x = unsigned_bytes x.index ++ (unsigned_bytes x.offset ++ unsigned_bytes x.size)

pub record PlaceFits (x : DefinedDataSymbol) : Type 0 where
  pub index : x.index < 2 ^ 32
  pub offset : x.offset < 2 ^ 32
  pub size : x.size < 2 ^ 32

-- the location of data, if there is one
abbrev pub maybe_place : Option DefinedDataSymbol → List ℕ
maybe_place None = []
maybe_place (Some place) = place_bytes place

-- A location is there exactly if the data is defined here, and its numbers are u32.
abbrev pub PlaceMatches : (flags : ℕ) → Option DefinedDataSymbol → Type 0
PlaceMatches flags None = is_undefined flags ≡ true
PlaceMatches flags (Some place) = (is_undefined flags ≡ false) × PlaceFits place

-- the kind and the flags of a symbol, and what follows them
abbrev pub symbol_kind : SymbolParts → ℕ
symbol_kind (indexed kind flags index name) = kind
symbol_kind (data_symbol flags name symbol) = 0x01
symbol_kind (section_symbol flags section) = 0x03

abbrev pub symbol_flags : SymbolParts → ℕ
symbol_flags (indexed kind flags index name) = flags
symbol_flags (data_symbol flags name symbol) = flags
symbol_flags (section_symbol flags section) = flags

abbrev pub symbol_rest : SymbolParts → List ℕ
symbol_rest (indexed kind flags index name) = unsigned_bytes index ++ maybe_name name
symbol_rest (data_symbol flags name symbol) = name_bytes name ++ maybe_place symbol
symbol_rest (section_symbol flags section) = unsigned_bytes section

abbrev pub RestFits : SymbolParts → Type 0
RestFits (indexed kind flags index name) = (index < 2 ^ 32) × NameMatches flags name
RestFits (data_symbol flags name symbol) = TextFits name × PlaceMatches flags symbol
RestFits (section_symbol flags section) = section < 2 ^ 32

-- | the bytes of a symbol: the byte of its kind, its flags, and then an index and a name, a name and a location, or the
--   index of a section; whether it fits: its name and its location are there exactly if its flags say so
--   [`symbol_bytes`, `symbol_kind`, `symbol_flags`, `symbol_rest`, `maybe_name`, `maybe_place`, `place_bytes`;
--   `SymbolFits`, `RestFits`, `NameMatches`, `PlaceMatches`, `PlaceFits`] <tool conventions, Linking, Symbol Table
--   Subsection>
-- a symbol: the byte of its kind, its flags, and what follows them
unfoldable pub symbol_bytes : SymbolParts → List ℕ
symbol_bytes x = symbol_kind x ∷ (unsigned_bytes (symbol_flags x) ++ symbol_rest x)

pub record SymbolFits (x : SymbolParts) : Type 0 where
  pub flags : symbol_flags x < 2 ^ 32
  pub rest : RestFits x
  pub short : length (symbol_bytes x) < 2 ^ 32
