-- The state of a parser: its offset, and what earlier parts imply for later ones.
use Rattle.std.specs.Prelude.{◌≡◌, ℕ, ◌+◌, ◌<◌, max, Bool, true, false, List, [], ◌∷◌, length, option_to_list, Option}
use Rattle.std.specs.Prelude.{Some, None, not, ◌&&◌, nat_lt, nat_eq, if◌then◌else◌}
use Rattle.wasm_grammar.specs.declared.encoding.Encoding.{Encoding}
use Rattle.wasm_grammar.specs.declared.encoding.Encoding.TheVariants.{Module}
use Rattle.wasm_grammar.specs.Grammar.{Shape, code_start, code_entry, Tile, SectionContext, Grammar, header_grammar}
use Rattle.wasm_grammar.specs.Tiling.{bytes_of, Faultless, inside, encoding_of, tile_rank, counts, bodies_left}
use Rattle.wasm_grammar.specs.Tiling.{bytes_left, is_start}
use Rattle.wasm_grammar.specs.Ids.{function_id, code_id, data_id, data_count_id}

-- the greatest rank of these tiles, or 0
abbrev pub greatest : List Tile → ℕ
greatest [] = 0
greatest (t ∷ earlier) = max (tile_rank t.shape) (greatest earlier)

-- whether a tile is the start of a code section, or a body
abbrev pub is_of_code : Shape → Bool
is_of_code (code_start count width size) = true
is_of_code (code_entry content) = true
is_of_code other = false

-- whether the newest tile is the start of a code section, or a body
abbrev pub ends_in_code : List Tile → Bool
ends_in_code [] = false
ends_in_code (t ∷ earlier) = is_of_code t.shape

-- | what a parser knows of a prefix; that it is after one [`IsStateAfter`]
-- what a parser knows of the parts before its offset
pub record ParserState : Type 0 where
  pub offset : ℕ
  pub features : ℕ
  pub expects_header : Bool
  pub encoding : Encoding
  -- the greatest rank of a section so far, or 0
  pub rank : ℕ
  -- the counts of the function, code, data and data count sections
  pub functions : Option ℕ
  pub codes : Option ℕ
  pub datas : Option ℕ
  pub data_counts : Option ℕ
  -- the remaining bodies and bytes of a code section
  pub bodies : ℕ
  pub code_bytes : ℕ
  -- whether the last part was the start of a code section, or a body
  pub in_code : Bool

-- a new parser, at the start of a stream
abbrev pub initial_state : (offset features : ℕ) → ParserState
initial_state offset features = record {
  offset = offset;
  features = features;
  expects_header = true;
  encoding = Module;
  rank = 0;
  functions = None;
  codes = None;
  datas = None;
  data_counts = None;
  bodies = 0;
  code_bytes = 0;
  in_code = false;
}

-- This is the state of a parser after this prefix of a stream with this start offset.
pub record IsStateAfter (p : ParserState) (start : ℕ) (prefix : List ℕ) : Type 0 where
  pub tiles : List Tile
  pub faultless : Faultless start tiles
  pub is_prefix : bytes_of tiles ≡ prefix
  pub offset : p.offset ≡ start + length prefix
  pub expects_header : p.expects_header ≡ is_start tiles
  pub encoding : p.encoding ≡ encoding_of tiles
  pub rank : p.rank ≡ greatest tiles
  pub functions : option_to_list p.functions ≡ counts function_id tiles
  pub codes : option_to_list p.codes ≡ counts code_id tiles
  pub datas : option_to_list p.datas ≡ counts data_id tiles
  pub data_counts : option_to_list p.data_counts ≡ counts data_count_id tiles
  pub bodies : p.bodies ≡ bodies_left tiles
  pub code_bytes : p.code_bytes ≡ bytes_left tiles
  -- set while a code section has remaining bodies or bytes; at its end it may be set or not
  pub in_code : p.in_code ≡ true → ends_in_code tiles ≡ true
  pub open_code : 0 < bodies_left tiles + bytes_left tiles → p.in_code ≡ true

-- what earlier parts imply for a section, as far as the parser knows
abbrev pub known_context : ParserState → SectionContext
known_context p = record {
  encoding = p.encoding;
  may_follow = λ r. nat_lt p.rank r;
  functions = option_to_list p.functions;
  codes = option_to_list p.codes;
  datas = option_to_list p.datas;
  data_counts = option_to_list p.data_counts;
}

-- the grammar of what may come at the parser's offset
abbrev pub grammar_of : ParserState → Grammar
grammar_of p = if p.expects_header then header_grammar p.offset else inside
    (known_context p) p.bodies p.code_bytes p.offset

-- whether a section may start at the parser's offset
abbrev pub is_at_section : ParserState → Bool
is_at_section p = not p.expects_header && nat_eq (p.bodies + p.code_bytes) 0

-- the state after the end was reported
abbrev pub ended_state : ParserState → ParserState
ended_state p = record p { in_code = false }

-- the remaining bytes of a code section, from its start until the next section
abbrev pub skippable_of : ParserState → Option ℕ
skippable_of p = if p.in_code then Some p.code_bytes else None

-- the state after these bytes are skipped
abbrev pub skipped_state : ParserState → ParserState
skipped_state p = record p { offset = p.offset + p.code_bytes; bodies = 0; code_bytes = 0 }
