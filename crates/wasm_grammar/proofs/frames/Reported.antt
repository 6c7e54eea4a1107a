-- The sections that are reported of tiles.
use Rattle.wasm_grammar.proofs.Common.{arith, ◌≡◌, Bool, cond, List, [], ◌∷◌, ◌++◌, ℕ, ◌+◌, length, None, append-nil, Option, ◌-◌}
use Rattle.wasm_grammar.proofs.Common.{length-append, Some, option_to_list, Range, Ending, kind_of, whole, Tile, SectionContext, version}
use Rattle.wasm_grammar.proofs.Common.{tile, section, code_start, code_entry, Shape, verdict, section_grammar, body_grammar, events_of}
use Rattle.wasm_grammar.proofs.Common.{Event, last_event, tile_report, event_of, section_of, sections_of, bytes_of, encoding_of, grammar}
use Rattle.wasm_grammar.proofs.Common.{Encoding, Module}
use Rattle.std.proofs.lemmas.List.Elements.{filter_map-append}
use Rattle.wasm_grammar.proofs.parts.Placed.{each_tile, bodied, headed}
use Rattle.wasm_grammar.proofs.readings.EndToEnd.{Closes, tile_closes}

-- ---- a tile of an encoding

-- the tile's kind is that of its id, and a code section's head is in a module
abbrev pub Kinded : Encoding → Shape → Type 0
Kinded encoding (section form id content) = whole form ≡ kind_of encoding id
Kinded encoding (code_start count width size) = encoding ≡ Module
Kinded encoding (code_entry content) = Unit {0}
Kinded encoding (version num other) = ⊥

kinded_section : (p : SectionContext) (o : ℕ) (xs : List ℕ) (t : Tile) → verdict (section_grammar p o) xs ≡ tile t
    → Kinded p.encoding t.shape
unfolding section_grammar
kinded_section p o xs t e = each_tile (Kinded p.encoding) (section_grammar p o)
    (λ id x n k y z. grind arith) xs t e

kinded_at : (b : Bool) (p : SectionContext) (m l o : ℕ) (xs : List ℕ) (t : Tile)
    → verdict (cond b (section_grammar p o) (body_grammar m l o)) xs ≡ tile t → Kinded p.encoding t.shape
kinded_at b p m l o xs t e = grind (arith, kinded_section, bodied)

-- each tile after a header is
pub kinded : (start : ℕ) (u : Tile) (ts : List Tile) (xs : List ℕ) (t : Tile) → verdict (grammar start (u ∷ ts)) xs ≡ tile t
    → Kinded (encoding_of (u ∷ ts)) t.shape
kinded start u ts xs t e = search kinded_at

-- it names no other encoding
pub same_encoding : (t : Tile) (ts : List Tile) → Kinded (encoding_of ts) t.shape → encoding_of (t ∷ ts) ≡ encoding_of ts
same_encoding t ts k = grind arith

-- ---- what is reported of a tile

-- the section that is reported of a tile that ends at this offset
abbrev pub section_at : (high : ℕ) → Shape → Option (ℕ × Range ℕ)
section_at high (section kind id content) = Some (id, record { start = high - length content; end = high })
section_at high (code_start count width size) = Some (10, record { start = high - width; end = high + size })
section_at high _ = None

report_shape : (encoding : Encoding) (features low : ℕ) (bytes : List ℕ) (s : Shape) → Kinded encoding s → Closes s bytes
    → section_of (tile_report features low (low + length bytes) s) ≡ section_at (low + length bytes) s
report_shape encoding features low bytes s e f = grind (arith, length-append)

-- what is reported of a tile after a header
pub report_after : (start features low : ℕ) (u : Tile) (ts : List Tile) (t : Tile) → verdict (grammar start (u ∷ ts)) t.bytes ≡ tile t
    → section_of (event_of features low t).report ≡ section_at (low + length t.bytes) t.shape
report_after start features low u ts t e = search (report_shape, kinded, tile_closes)

-- ---- what is reported of all tiles

-- one tile more after a header
pub sections_more : (start features : ℕ) (u : Tile) (ts : List Tile) (t : Tile) → verdict (grammar start (u ∷ ts)) t.bytes ≡ tile t
    → sections_of (events_of start features (t ∷ u ∷ ts)) ≡ sections_of (events_of start features (u ∷ ts))
    ++ option_to_list (section_at (start + length (bytes_of (u ∷ ts)) + length t.bytes) t.shape)
sections_more start features u ts t e = grind (arith, report_after, filter_map-append)

-- a header alone
pub sections_first : (start features : ℕ) (t : Tile) → verdict (grammar start []) t.bytes ≡ tile t
    → sections_of (events_of start features (t ∷ [])) ≡ []
sections_first start features t e = grind (arith, headed)

-- how a stream ends is no section
pub sections_all : (es : List Event) (e : Ending) → sections_of (es ++ last_event e ∷ []) ≡ sections_of es
sections_all es e = grind (arith, append-nil, filter_map-append)
