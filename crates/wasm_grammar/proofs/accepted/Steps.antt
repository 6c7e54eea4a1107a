-- A good section that fits after other tiles is one tile more, or the head of a code section and its bodies.
use Rattle.wasm_grammar.proofs.Common.{arith, ◌≡◌, true, false, List, [], ◌∷◌, ◌++◌, refl, ap, ℕ, ◌+◌, length, ◌≤◌, ◌<◌, ◌∙◌, nat_eq}
use Rattle.wasm_grammar.proofs.Common.{append-nil, append_assoc, subst, suc, ◌-◌, length-append, ◌^◌, common_steps, All-head, All-tail, All}
use Rattle.wasm_grammar.proofs.Common.{flat_map, SectionFrame, frame_count, Sized, sized_bytes, IsSized, frame_bytes, IsFrame, FitsAfter}
use Rattle.wasm_grammar.proofs.Common.{CodeDivision, kind_of, body_events, Tile, SectionContext, tile, section, code_start, code_entry}
use Rattle.wasm_grammar.proofs.Common.{verdict, section_grammar, code_id, events_of, bytes_of, context_of, bodies_left, bytes_left, grammar}
use Rattle.wasm_grammar.proofs.Common.{is_start, Faultless, Encoding, Module}
use Rattle.std.proofs.lemmas.Bool.{ne_eqb}
use Rattle.wasm_grammar.specs.Content.{count_of, value_of}
use Rattle.wasm_grammar.proofs.accepted.Contents.{good_to}
use Rattle.wasm_grammar.proofs.accepted.Counts.{Knows}
use Rattle.wasm_grammar.proofs.accepted.Fits.{rank_to, CodeFits, code_to, data_to}
use Rattle.wasm_grammar.proofs.accepted.Knows.{grammar_open, knows_body}
use Rattle.wasm_grammar.proofs.accepted.Tiles.{made, IsWhole, number_on, section_tile, code_head_tile, body_tile}
use Rattle.wasm_grammar.proofs.frames.TileEvents.{body_tile_event}

-- a good section that fits after tiles of its own encoding is a tile
section_at : (p : SectionContext) (fs : List SectionFrame) (o : ℕ) (f : SectionFrame) → o + length (frame_bytes f) < 2 ^ 64
    → Knows p.encoding fs p → IsFrame p.encoding f → FitsAfter p.encoding fs f
    → (w : IsWhole (kind_of p.encoding f.id)) → verdict (section_grammar p o) (frame_bytes f)
    ≡ tile (made (section w.0 f.id f.sized.content) (frame_bytes f))
section_at p fs o f r k i a w =
    section_tile p o f.id f.sized.field f.sized.content (grind (arith, common_steps, length-append, rank_to)) w
    (grind arith)
    (λ at. good_to w.0 at f.sized.content (grind arith))
    (λ at. data_to p.encoding fs p k f at a.segments w.0 w.1)

-- a good section that fits and is no code section is a tile
pub section_step : (encoding : Encoding) (p : SectionContext) (fs : List SectionFrame) (o : ℕ) (f : SectionFrame)
    → o + length (frame_bytes f) < 2 ^ 64 → Knows encoding fs p → IsFrame encoding f → FitsAfter encoding fs f
    → (w : IsWhole (kind_of encoding f.id)) → verdict (section_grammar p o) (frame_bytes f)
    ≡ tile (made (section w.0 f.id f.sized.content) (frame_bytes f))
section_step encoding p fs o f r k i a w =
    subst (λ (e : Encoding). Knows e fs p → IsFrame e f → FitsAfter e fs f → (w : IsWhole (kind_of e f.id))
    → verdict (section_grammar p o) (frame_bytes f) ≡ tile (made (section w.0 f.id f.sized.content) (frame_bytes f)))
    k.named (section_at p fs o f r) k i a w

-- what a code section's content says it has
pub division_count : (f : SectionFrame) (d : CodeDivision f.sized.content) → frame_count f ≡ length d.bodies
division_count f d = ap count_of d.whole ∙ ap value_of (number_on d.field (flat_map sized_bytes d.bodies) (length d.bodies) d.count)

-- how long a code section's content is
pub division_length : (f : SectionFrame) (d : CodeDivision f.sized.content) → length f.sized.content
    ≡ length d.field + length (flat_map sized_bytes d.bodies)
division_length f d = ap (λ (x : List ℕ). length x) d.whole ∙ length-append d.field (flat_map sized_bytes d.bodies)

-- a good code section that fits begins with the tile of its head
pub code_step : (p : SectionContext) (fs : List SectionFrame) (o : ℕ) (f : SectionFrame) (d : CodeDivision f.sized.content) → f.id ≡ code_id
    → o + length (frame_bytes f) < 2 ^ 64 → Knows Module fs p → IsFrame Module f → FitsAfter Module fs f
    → verdict (section_grammar p o) (10 ∷ (f.sized.field ++ d.field))
    ≡ tile (made (code_start (length d.bodies) (length d.field) (length f.sized.content - length d.field))
    (10 ∷ (f.sized.field ++ d.field)))
code_step p fs o f d z r k i a =
    let c : frame_count f ≡ length d.bodies = division_count f d in
    let g : CodeFits Module fs (frame_count f) = record { bodies = a.bodies (refl, z); functions = a.functions (refl, z) } in
    code_head_tile p o (length f.sized.content) (length d.bodies) f.sized.field d.field (grind (arith, rank_to, length-append))
    (rw k.named) d.count
    (omega (arith, division_length f d)) (λ at. code_to Module fs p k at (length d.bodies) (rw c at g))

-- tiles after all bodies of a code section
pub record Through (start : ℕ) (ts : List Tile) (bodies : List Sized) : Type 0 where
  pub tiles : List Tile
  pub begun : is_start tiles ≡ false
  pub faultless : Faultless start tiles
  pub joined : bytes_of tiles ≡ bytes_of ts ++ flat_map sized_bytes bodies
  pub closed : nat_eq (bodies_left tiles + bytes_left tiles) 0 ≡ true
  pub knows : (encoding : Encoding) (fs : List SectionFrame) → Knows encoding fs (context_of ts) → Knows encoding fs (context_of tiles)
  pub listed : (features : ℕ) → events_of start features tiles ≡ events_of start features ts
      ++ body_events features (start + length (bytes_of ts)) bodies

-- a body that a code section misses is a tile
body_at : (start : ℕ) (ts : List Tile) (s : Sized) (n : ℕ) → is_start ts ≡ false → IsSized s → bodies_left ts ≡ suc n
    → length (sized_bytes s) ≤ bytes_left ts
    → verdict (grammar start ts) (sized_bytes s) ≡ tile (made (code_entry s.content) (sized_bytes s))
body_at start ts s n b i e l = grind (arith, grammar_open, body_tile, length-append, ne_eqb)

-- bodies that a code section misses are tiles
pub bodies_walk : (start : ℕ) (bodies : List Sized) (ts : List Tile) → is_start ts ≡ false → Faultless start ts → All IsSized bodies
    → bodies_left ts ≡ length bodies → bytes_left ts ≡ length (flat_map sized_bytes bodies) → Through start ts bodies
bodies_walk start [] ts b f a m l = grind (arith, append-nil)
bodies_walk start (s ∷ bodies) ts b f a m l =
    let h : length (flat_map sized_bytes (s ∷ bodies)) ≡ length (sized_bytes s) + length (flat_map sized_bytes bodies) =
    length-append (sized_bytes s) (flat_map sized_bytes bodies) in
    let v : verdict (grammar start ts) (sized_bytes s) ≡ tile (made (code_entry s.content) (sized_bytes s)) =
    body_at start ts s (length bodies) b (All-head IsSized s bodies a) m (omega arith) in
    let t = bodies_walk start bodies (made (code_entry s.content) (sized_bytes s) ∷ ts) refl (f, v) (All-tail IsSized s bodies a)
    (omega arith) (omega arith) in
    grind (arith, append_assoc, knows_body, length-append, body_tile_event)
