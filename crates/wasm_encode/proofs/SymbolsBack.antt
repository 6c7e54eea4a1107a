-- The bytes of symbols are read as the symbols.
use Rattle.std.proofs.Common.{◌≡◌, ℕ, ◌+◌, ◌<◌, ◌^◌, List, ◌∷◌, ◌++◌, Option, Some, None, Ok, append_assoc, arith}
use Rattle.std.proofs.Common.{length, length-append, refl, ◌∙◌}
use Rattle.wasm_base.specs.Item.{ReadsAs}
use Rattle.wasm_base.specs.Name.{text_at}
use Rattle.wasm_base.specs.Number.{unsigned_at}
use Rattle.wasm_base.specs.Outcome.{◌>>=◌}
use Rattle.wasm_base.specs.declared.fault.NumberKind.TheVariants.{VarU32}
use Rattle.wasm_custom.specs.Linking.{SymbolParts, indexed, data_symbol, section_symbol}
use Rattle.wasm_custom.specs.Linking.{data_place_at, data_symbol_at, defined_data_at, index_and_name_at, indexed_symbol_at}
use Rattle.wasm_custom.specs.Linking.{section_symbol_at, symbol_after, symbol_at, symbol_name_at, symbol_parts}
use Rattle.wasm_custom.specs.declared.linking.DefinedDataSymbol.{DefinedDataSymbol}
use Rattle.wasm_custom.specs.declared.linking.SymbolInfo.{SymbolInfo}
use Rattle.wasm_custom.specs.declared.linking.SymbolInfo.TheVariants as Symbols
use Rattle.wasm_encode.specs.Names.{name_bytes}
use Rattle.wasm_encode.specs.Numbers.{unsigned_bytes}
use Rattle.wasm_encode.specs.ReadsBack.{Encodes}
use Rattle.wasm_encode.specs.Symbols.{NameMatches, PlaceFits, PlaceMatches, SymbolFits, maybe_name, maybe_place, place_bytes}
use Rattle.wasm_encode.specs.Symbols.{symbol_bytes}
use Rattle.wasm_encode.specs.Texts.{TextFits}
use Rattle.wasm_encode.proofs.ImportsBack.{reads_u32}
use Rattle.wasm_encode.proofs.NumbersBack.{unsigned_at_spot}
use Rattle.wasm_encode.proofs.Readings.{Reads, encodes_so, reads_as, reads_nothing, reads_then, same_spot}
use Rattle.wasm_encode.proofs.NamesBack.{reads_text}

reads_place : (x : DefinedDataSymbol) (features : ℕ) → PlaceFits x → Reads defined_data_at features x (place_bytes x)
unfolding defined_data_at place_bytes
reads_place x features h =
    reads_then (unsigned_at VarU32)
    (λ index p. unsigned_at VarU32 p >>= λ offset. unsigned_at VarU32 offset.1 >>= λ size.
    Ok (record { index = index; offset = offset.0; size = size.0 }, size.1))
    features x.index x (unsigned_bytes x.index) (unsigned_bytes x.offset ++ unsigned_bytes x.size) (reads_u32 x.index features h.index)
    (reads_then (unsigned_at VarU32)
    (λ offset p. unsigned_at VarU32 p >>= λ size. Ok (record { index = x.index; offset = offset; size = size.0 }, size.1))
    features x.offset x (unsigned_bytes x.offset) (unsigned_bytes x.size) (reads_u32 x.offset features h.offset)
    (reads_as (unsigned_at VarU32) (λ size. record { index = x.index; offset = x.offset; size = size }) features x.size
    (unsigned_bytes x.size) (reads_u32 x.size features h.size)))

pub place_encodes : (x : DefinedDataSymbol) (features : ℕ) → PlaceFits x
    → Encodes (ReadsAs (λ (y : DefinedDataSymbol). y) defined_data_at) features (λ (offset : ℕ). x) (place_bytes x)
place_encodes x features h = encodes_so (λ y. y) defined_data_at features x (place_bytes x) (reads_place x features h)

-- ---- what a symbol has by its flags

reads_maybe_name : (flags : ℕ) (name : Option (List ℕ)) (features : ℕ) → NameMatches flags name
    → Reads (symbol_name_at flags) features name (maybe_name name)
unfolding symbol_name_at
reads_maybe_name flags None features h = record { at = λ offset later. rw h ((reads_nothing features None).at offset later) }
reads_maybe_name flags (Some text) features h =
    let read = reads_as (text_at None) (λ t. Some t) features text (name_bytes text) (reads_text text features h.1) in
    record { at = λ offset later. rw h.0 (read.at offset later) }

reads_maybe_place : (flags : ℕ) (symbol : Option DefinedDataSymbol) (features : ℕ) → PlaceMatches flags symbol
    → Reads (data_place_at flags) features symbol (maybe_place symbol)
unfolding data_place_at
reads_maybe_place flags None features h = record { at = λ offset later. rw h ((reads_nothing features None).at offset later) }
reads_maybe_place flags (Some place) features h =
    let read = reads_as defined_data_at (λ x. Some x) features place (place_bytes place) (reads_place place features h.1) in
    record { at = λ offset later. rw h.0 (read.at offset later) }

reads_indexed : (kind flags index : ℕ) (name : Option (List ℕ)) (features : ℕ) → index < 2 ^ 32 → NameMatches flags name
    → Reads (indexed_symbol_at kind flags) features (indexed kind flags index name) (unsigned_bytes index ++ maybe_name name)
unfolding index_and_name_at
reads_indexed kind flags index name features h matches =
    reads_as (index_and_name_at flags) (λ s. indexed kind flags s.0 s.1) features (index, name) (unsigned_bytes index ++ maybe_name name)
    (reads_then (unsigned_at VarU32) (λ i p. symbol_name_at flags p >>= λ n. Ok ((i, n.0), n.1))
    features index (index, name) (unsigned_bytes index) (maybe_name name) (reads_u32 index features h)
    (reads_as (symbol_name_at flags) (λ n. (index, n)) features name (maybe_name name) (reads_maybe_name flags name features matches)))

reads_data : (flags : ℕ) (name : List ℕ) (symbol : Option DefinedDataSymbol) (features : ℕ) → TextFits name → PlaceMatches flags symbol
    → Reads (data_symbol_at flags) features (data_symbol flags name symbol) (name_bytes name ++ maybe_place symbol)
reads_data flags name symbol features h matches =
    reads_then (text_at None) (λ n p. data_place_at flags p >>= λ s. Ok (data_symbol flags n s.0, s.1))
    features name (data_symbol flags name symbol) (name_bytes name) (maybe_place symbol) (reads_text name features h)
    (reads_as (data_place_at flags) (λ s. data_symbol flags name s) features symbol (maybe_place symbol)
    (reads_maybe_place flags symbol features matches))

reads_section : (flags section features : ℕ) → section < 2 ^ 32
    → Reads (section_symbol_at flags) features (section_symbol flags section) (unsigned_bytes section)
reads_section flags section features h =
    reads_as (unsigned_at VarU32) (λ n. section_symbol flags n) features section (unsigned_bytes section) (reads_u32 section features h)

-- ---- symbols

-- a kind and flags, and what follows them, wherever the symbol begins
after_flags : (kind flags features : ℕ) (x : SymbolParts) (rest : List ℕ) → flags < 2 ^ 32
    → ((start : ℕ) → Reads (symbol_after start kind flags) features x rest)
    → Reads symbol_at features x (kind ∷ (unsigned_bytes flags ++ rest))
unfolding symbol_at
after_flags kind flags features x rest h reads = record {
  at = λ offset later.
      let size : List ℕ = unsigned_bytes flags in
      let there : ℕ = offset + 1 + length size in
      let e : there + length rest ≡ offset + length (kind ∷ (size ++ rest)) = omega (arith, length-append size rest) in
      rw (append_assoc size rest later, unsigned_at_spot VarU32 features (offset + 1) flags (rest ++ later) refl h)
      ((reads offset).at there later
      ∙ same_spot features (there + length rest) (offset + length (kind ∷ (size ++ rest))) x later e);
}

reads_symbol : (x : SymbolInfo) (features : ℕ) → SymbolFits (symbol_parts x)
    → Reads symbol_at features (symbol_parts x) (symbol_bytes (symbol_parts x))
unfolding symbol_bytes
reads_symbol (Symbols.Func flags index name) features h =
    let x = symbol_parts (Symbols.Func flags index name) in
    after_flags 0 _ features x _ h.flags (λ start. reads_indexed 0 _ index _ features h.rest.0 h.rest.1)
reads_symbol (Symbols.Global flags index name) features h =
    let x = symbol_parts (Symbols.Global flags index name) in
    after_flags 2 _ features x _ h.flags (λ start. reads_indexed 2 _ index _ features h.rest.0 h.rest.1)
reads_symbol (Symbols.Event flags index name) features h =
    let x = symbol_parts (Symbols.Event flags index name) in
    after_flags 4 _ features x _ h.flags (λ start. reads_indexed 4 _ index _ features h.rest.0 h.rest.1)
reads_symbol (Symbols.Table flags index name) features h =
    let x = symbol_parts (Symbols.Table flags index name) in
    after_flags 5 _ features x _ h.flags (λ start. reads_indexed 5 _ index _ features h.rest.0 h.rest.1)
reads_symbol (Symbols.Data flags name symbol) features h =
    let x = symbol_parts (Symbols.Data flags name symbol) in
    after_flags 1 _ features x _ h.flags (λ start. reads_data _ name.now symbol features h.rest.0 h.rest.1)
reads_symbol (Symbols.Section flags section) features h =
    let x = symbol_parts (Symbols.Section flags section) in
    after_flags 3 _ features x _ h.flags (λ start. reads_section _ section features h.rest)

pub symbol_encodes : (x : SymbolInfo) (features : ℕ) → SymbolFits (symbol_parts x)
    → Encodes (ReadsAs symbol_parts symbol_at) features (λ (offset : ℕ). x) (symbol_bytes (symbol_parts x))
symbol_encodes x features h =
    encodes_so symbol_parts symbol_at features x (symbol_bytes (symbol_parts x)) (reads_symbol x features h)
