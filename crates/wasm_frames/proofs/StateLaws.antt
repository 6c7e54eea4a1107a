-- What a parser knows is what the tiles before it say.
use Rattle.wasm_frames.proofs.Common.{◌≡◌, ℕ, ◌+◌, ◌<◌, Bool, true, false, List, [], ◌∷◌, ◌++◌, length, refl, sym, ap, ◌∙◌, arith}
use Rattle.wasm_frames.proofs.Common.{length-append, ltb-true, nat_eq, cond, nat_lt, ◌&&◌, option_to_list, Some, Option, eqb-true}
use Rattle.wasm_frames.proofs.Common.{and_parts, list_all, headed, bodied, Grown, grows, items, index, data_count, count_of, Kind, Tile}
use Rattle.wasm_frames.proofs.Common.{tile, Shape, SectionContext, content_grammar, section, verdict, header_grammar, section_grammar}
use Rattle.wasm_frames.proofs.Common.{data_id, function_id, grammar, inside, context_of, bodies_left, bytes_left, counts, ParserState}
use Rattle.wasm_frames.proofs.Common.{initial_state, grammar_of, known_context, IsStateAfter, greatest, state_after_tile}
use Rattle.std.proofs.Common.{max}
use Rattle.std.proofs.lemmas.Bool.{false_from_ne_true}
use Rattle.wasm_grammar.specs.Grammar.{code_start}
use Rattle.wasm_grammar.specs.Ids.{place_of, code_id, data_count_id, start_id}
use Rattle.wasm_grammar.specs.Tiling.{encoding_in, tile_rank, count_in, bodies_after, bytes_after}
use Rattle.wasm_frames.specs.ParserState.{is_of_code}
use Rattle.wasm_frames.specs.StateAfter.{known_rank}
use Rattle.wasm_grammar.proofs.accepted.KindIds.{IdOf, id_of_kind}
use Rattle.wasm_grammar.proofs.parts.Placed.{Each, each_tile, Fresh, fresh}

max_lt : (a g r : ℕ) → nat_lt (max a g) r ≡ (nat_lt a r && nat_lt g r)
max_lt a g r = grind arith

-- above the greatest rank is above each
pub may_same : (t : Tile) (ts : List Tile) (r : ℕ) → nat_lt (greatest (t ∷ ts)) r
    ≡ list_all (λ (u : Tile). nat_lt (tile_rank u.shape) r) (t ∷ ts)
may_same t [] r = grind arith
may_same t (u ∷ ts) r = grind (arith, max_lt, may_same u ts r)

module _ (p : ParserState) (start : ℕ) (prefix : List ℕ) (s : IsStateAfter p start prefix) where
  context_same : (t : Tile) (ts : List Tile) → s.tiles ≡ t ∷ ts → known_context p ≡ context_of (t ∷ ts)
  context_same t ts z = grind (arith, may_same)

  grammar_at : (ts : List Tile) → s.tiles ≡ ts → grammar_of p ≡ grammar start ts
  grammar_at ts z = search (arith, context_same)

-- what may come after a prefix is what the parser that is there expects
pub grammar_same : (p : ParserState) (start : ℕ) (prefix : List ℕ) (s : IsStateAfter p start prefix) → grammar_of p ≡ grammar start s.tiles
grammar_same p start prefix s = grammar_at p start prefix s s.tiles refl

-- below the rank of a section there is none of them
none_in : (n : ℕ) (s : Shape) (xs : List ℕ) → nat_lt (tile_rank s) (place_of n) ≡ true → xs ≡ [] → count_in n s xs ≡ []
none_in n s xs e f = grind (arith, false_from_ne_true, eqb-true)

pub counts_none : (n : ℕ) (ts : List Tile) → list_all (λ (u : Tile). nat_lt (tile_rank u.shape) (place_of n)) ts ≡ true → counts n ts ≡ []
counts_none n [] e = refl
counts_none n (t ∷ ts) e =
    let q : ((nat_lt (tile_rank t.shape) (place_of n) ≡ true) × (list_all (λ (u : Tile). nat_lt (tile_rank u.shape) (place_of n)) ts
    ≡ true)) = and_parts _ _ e in
    none_in n t.shape (counts n ts) q.0 (counts_none n ts q.1)

one_count : (b : Bool) (c : ℕ) (old : Option ℕ) (xs : List ℕ) → option_to_list old ≡ xs → (b ≡ true → xs ≡ [])
    → option_to_list (cond b (Some c) old) ≡ cond b (c ∷ xs) xs
one_count b c old xs e f = grind arith

none_of_rank : (n id : ℕ) (ts : List Tile) → 0 < place_of n → (0 < place_of id
    → list_all (λ (u : Tile). nat_lt (tile_rank u.shape) (place_of id)) ts ≡ true) → nat_eq id n ≡ true → counts n ts ≡ []
none_of_rank n id ts h f z = grind (arith, eqb-true, counts_none)

-- the known count of the section with this id, after one more tile
abbrev count_after : ℕ → Shape → Option ℕ → Option ℕ
count_after n (section items id content) old = cond (nat_eq id n) (Some (count_of content)) old
count_after n (section data_count id content) old = cond (nat_eq id n) (Some (count_of content)) old
count_after n (code_start count width size) old = cond (nat_eq 10 n) (Some count) old
count_after n other old = old

-- a parser keeps the one count that there is
count_same : (n : ℕ) (s : Shape) (old : Option ℕ) (ts : List Tile) → 0 < place_of n → option_to_list old ≡ counts n ts → Fresh ts s
    → option_to_list (count_after n s old) ≡ count_in n s (counts n ts)
count_same n (section items id content) old ts h e f = search (one_count, none_of_rank)
count_same n (section data_count id content) old ts h e f = search (one_count, none_of_rank)
count_same n (code_start count width size) old ts h e f = one_count (nat_eq 10 n) count old (counts n ts) e (none_of_rank n 10 ts h f)
count_same n _ old ts h e f = e

greatest_lt : (r : ℕ) (ts : List Tile) → 0 < r → list_all (λ (u : Tile). nat_lt (tile_rank u.shape) r) ts ≡ true → greatest ts < r
greatest_lt r [] h e = h
greatest_lt r (t ∷ ts) h e =
    let q : ((nat_lt (tile_rank t.shape) r ≡ true) × (list_all (λ (u : Tile). nat_lt (tile_rank u.shape) r) ts ≡ true)) = and_parts _ _ e in
    grind (arith, ltb-true, greatest_lt r ts h q.1)

rank_grows : (r old g : ℕ) → old ≡ g → (0 < r → g < r) → known_rank r old ≡ max r g
rank_grows r old g e f = grind arith

-- the state after one more tile, by what the tile is
abbrev after_shape : ParserState → Tile → ParserState
after_shape p t = record {
  offset = p.offset + length t.bytes;
  features = p.features;
  expects_header = false;
  encoding = encoding_in t.shape p.encoding;
  rank = known_rank (tile_rank t.shape) p.rank;
  functions = count_after function_id t.shape p.functions;
  codes = count_after code_id t.shape p.codes;
  datas = count_after data_id t.shape p.datas;
  data_counts = count_after data_count_id t.shape p.data_counts;
  bodies = bodies_after t.shape p.bodies;
  code_bytes = bytes_after t t.shape p.code_bytes;
  in_code = is_of_code t.shape;
}

-- ---- what a tile's kind says of its id

-- the id of a tile is that of its form
abbrev HasItsId : Shape → Type 0
HasItsId (section index id content) = id ≡ start_id
HasItsId (section data_count id content) = id ≡ data_count_id
HasItsId _ = Unit {0}

content_id : (p : SectionContext) (kind : Kind) (id o n : ℕ) → IdOf p.encoding kind id → Each HasItsId (content_grammar p kind id o n)
content_id p kind id o n h = grind arith

section_id : (p : SectionContext) (o : ℕ) (xs : List ℕ) (t : Tile) → verdict (section_grammar p o) xs ≡ tile t → HasItsId t.shape
unfolding section_grammar
section_id p o xs t e = each_tile HasItsId (section_grammar p o) (λ id x n k y z. content_id p _ id _ n (id_of_kind p.encoding id)) xs t e

tile_id : (h : Bool) (p : ParserState) (xs : List ℕ) (t : Tile)
    → verdict (cond h (header_grammar p.offset) (inside (known_context p) p.bodies p.code_bytes p.offset)) xs ≡ tile t → HasItsId t.shape
tile_id h p xs t e = grind (arith, headed, section_id, bodied)

-- ---- the state after a tile, by what is reported of it

-- a tile of these bytes
abbrev tile_of : Shape → List ℕ → Tile
tile_of shape b = record { shape = shape; bytes = b }

after_at : (p : ParserState) (shape : Shape) (b : List ℕ) → HasItsId shape → state_after_tile p (tile_of shape b)
    ≡ after_shape p (tile_of shape b)
after_at p shape b h = grind arith

-- the state after a tile that comes next
pub state_same : (p : ParserState) (d : List ℕ) (t : Tile) → verdict (grammar_of p) d ≡ tile t → state_after_tile p t ≡ after_shape p t
state_same p d t e = after_at p t.shape t.bytes (tile_id p.expects_header p d t e)

-- a parser that has passed nothing
abbrev pub nothing_passed : (start features : ℕ) → IsStateAfter (initial_state start features) start []
nothing_passed start features = record {
  tiles = [];
  faultless = tt;
  is_prefix = refl;
  offset = omega arith;
  expects_header = refl;
  encoding = refl;
  rank = refl;
  functions = refl;
  codes = refl;
  datas = refl;
  data_counts = refl;
  bodies = refl;
  code_bytes = refl;
  in_code = λ e. e;
  open_code = λ l. absurd (omega (arith, l));
}

-- bodies or bytes of a code section are left only after its start, or a body
code_is_open : (t : Tile) (bodies code_bytes : ℕ) (shape : Shape) → 0 < bodies_after shape bodies + bytes_after t shape code_bytes
    → is_of_code shape ≡ true
code_is_open t bodies code_bytes shape l = grind arith

-- a parser whose state is that after the tile that comes next knows what the tiles say, with that one
pub state_goes_on : (p : ParserState) (start : ℕ) (prefix : List ℕ) (s : IsStateAfter p start prefix) (d : List ℕ) (t : Tile)
    → verdict (grammar_of p) d ≡ tile t → IsStateAfter (state_after_tile p t) start (prefix ++ t.bytes)
state_goes_on p start prefix s d t e =
    let v : verdict (grammar start s.tiles) d ≡ tile t = rw (grammar_same p start prefix s) at e in
    let g : Grown start s.tiles d t = grows start s.tiles d t s.faultless v in
    let f : Fresh s.tiles t.shape = fresh start s.tiles d t v in
    let q : state_after_tile p t ≡ after_shape p t = state_same p d t e in
    record {
      tiles = t ∷ s.tiles;
      faultless = g.faultless;
      is_prefix = rw s.is_prefix;
      offset = omega (arith, length-append prefix t.bytes);
      expects_header = refl;
      encoding = cc;
      rank = ap (λ (x : ParserState). x.rank) q ∙ rank_grows (tile_rank t.shape) p.rank (greatest s.tiles) s.rank
          (λ h. greatest_lt (tile_rank t.shape) s.tiles h (f h));
      functions = grind (arith, count_same);
      codes = grind (arith, count_same);
      datas = grind (arith, count_same);
      data_counts = grind (arith, count_same);
      bodies = cc;
      code_bytes = cc;
      in_code = λ h. sym (ap (λ (x : ParserState). x.in_code) q) ∙ h;
      open_code = λ l. ap (λ (x : ParserState). x.in_code) q ∙ code_is_open t (bodies_left s.tiles) (bytes_left s.tiles) t.shape l;
    }

-- its tiles are one more
pub state_goes_on-tiles : (p : ParserState) (start : ℕ) (prefix : List ℕ) (s : IsStateAfter p start prefix) (d : List ℕ) (t : Tile)
    (e : verdict (grammar_of p) d ≡ tile t) → (state_goes_on p start prefix s d t e).tiles ≡ t ∷ s.tiles
unfolding state_goes_on
state_goes_on-tiles p start prefix s d t e = refl
