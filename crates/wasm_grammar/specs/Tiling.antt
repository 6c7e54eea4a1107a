-- Tilings of a stream: lists of tiles, and what earlier tiles imply for later ones.
use Rattle.std.specs.Prelude.{◌≡◌, ℕ, ◌+◌, ◌-◌, List, [], ◌∷◌, ◌++◌, length, nat_lt, nat_eq, if◌then◌else◌, Bool, true}
use Rattle.std.specs.Prelude.{false}
use Rattle.std.specs.List.{list_all}
use Rattle.wasm_grammar.specs.Content.{items, data_count, code, rank_of, count_of, whole}
use Rattle.wasm_grammar.specs.Grammar.{Shape, version, section, code_start, code_entry, Tile, tile, SectionContext}
use Rattle.wasm_grammar.specs.Grammar.{Grammar, verdict, header_grammar, section_grammar, body_grammar}
use Rattle.wasm_grammar.specs.declared.encoding.Encoding.{Encoding}
use Rattle.wasm_grammar.specs.declared.encoding.Encoding.TheVariants.{Module}
use Rattle.wasm_grammar.specs.Ids.{function_id, code_id, data_id, data_count_id}

-- Tiles are listed newest first: `t ∷ earlier` is a tile and all tiles before it.

-- the bytes of tiles, in the order of the stream
abbrev pub bytes_of : List Tile → List ℕ
bytes_of [] = []
bytes_of (t ∷ earlier) = bytes_of earlier ++ t.bytes

-- whether there are no tiles
abbrev pub is_start : List Tile → Bool
is_start [] = true
is_start (t ∷ earlier) = false

-- the encoding after a tile, from the one before it
abbrev pub encoding_in : Shape → Encoding → Encoding
encoding_in (version num encoding) other = encoding
encoding_in other known = known

abbrev pub encoding_of : List Tile → Encoding
encoding_of [] = Module
encoding_of (t ∷ earlier) = encoding_in t.shape (encoding_of earlier)

-- the rank of a tile, or 0
abbrev pub tile_rank : Shape → ℕ
tile_rank (section form id content) = rank_of (whole form) id
tile_rank (code_start count width size) = rank_of code code_id
tile_rank other = 0

-- these counts, and that of the tile if it is a section with this id
abbrev pub count_in : ℕ → Shape → List ℕ → List ℕ
count_in n (section items id content) others = if nat_eq id n then count_of content ∷ others else others
count_in n (section data_count id content) others = if nat_eq id n then count_of content ∷ others else others
count_in n (code_start count width size) others = if nat_eq code_id n then count ∷ others else others
count_in n other others = others

-- the counts of the sections with this id
abbrev pub counts : ℕ → List Tile → List ℕ
counts n [] = []
counts n (t ∷ earlier) = count_in n t.shape (counts n earlier)

-- the remaining bodies of a code section after a tile, from those before it, and the remaining bytes
abbrev pub bodies_after : Shape → ℕ → ℕ
bodies_after (code_start count width size) earlier = count
bodies_after (code_entry content) earlier = earlier - 1
bodies_after other earlier = 0

abbrev pub bytes_after : Tile → Shape → ℕ → ℕ
bytes_after t (code_start count width size) earlier = size
bytes_after t (code_entry content) earlier = earlier - length t.bytes
bytes_after t other earlier = 0

abbrev pub bodies_left : List Tile → ℕ
bodies_left [] = 0
bodies_left (t ∷ earlier) = bodies_after t.shape (bodies_left earlier)

abbrev pub bytes_left : List Tile → ℕ
bytes_left [] = 0
bytes_left (t ∷ earlier) = bytes_after t t.shape (bytes_left earlier)

-- | what the tiles before a section imply for it: it ranks above each, and the counts agree
--   [`Grammar.SectionContext`] <Modules>
-- what these tiles imply for a section after them
abbrev pub context_of : List Tile → SectionContext
context_of tiles = record {
  encoding = encoding_of tiles;
  may_follow = λ r. list_all (λ t. nat_lt (tile_rank t.shape) r) tiles;
  functions = counts function_id tiles;
  codes = counts code_id tiles;
  datas = counts data_id tiles;
  data_counts = counts data_count_id tiles;
}

-- what may come at this offset: a body if a code section has remaining bodies or bytes, and a section otherwise
abbrev pub inside : SectionContext → (bodies code_bytes offset : ℕ) → Grammar
inside before bodies code_bytes offset =
    if nat_eq (bodies + code_bytes) 0 then section_grammar before offset else body_grammar bodies code_bytes offset

-- | what may come after tiles <Modules>
-- what may come after these tiles of a stream that starts at this offset
abbrev pub grammar : (start : ℕ) → List Tile → Grammar
grammar start [] = header_grammar start
grammar start (t ∷ earlier) =
    inside (context_of (t ∷ earlier)) (bodies_left (t ∷ earlier)) (bytes_left (t ∷ earlier))
    (start + length (bytes_of (t ∷ earlier)))

-- | each tile is what its bytes are, after the earlier ones
-- Each tile is the verdict over its bytes, after the earlier tiles.
abbrev pub Faultless : (start : ℕ) → List Tile → Type 0
Faultless start [] = Unit {0}
Faultless start (t ∷ earlier) = Faultless start earlier × (verdict (grammar start earlier) t.bytes ≡ tile t)
