-- Laws of tilings and readings.
use Rattle.wasm_grammar.proofs.Common.{arith, ◌≡◌, List, [], ◌∷◌, ◌++◌, refl, ap, ℕ, ◌+◌, length, ◌≤◌, ◌<◌, sym, ◌∙◌, append-nil}
use Rattle.wasm_grammar.proofs.Common.{append_assoc, subst, zero, suc, length-append, le_refl, append_cancel_left, Ending, ended, Tile}
use Rattle.wasm_grammar.proofs.Common.{tile, final, Verdict, verdict, Reads, Event, Reading, bytes_of, grammar, Faultless}
use Rattle.wasm_grammar.proofs.parts.Guarded.{Guarded-grammar, tile_least}
use Rattle.wasm_grammar.proofs.parts.Verdicts.{Cut, verdict-more, verdict-cut}

-- the tile that is after a faultless tiling
pub record Grown (start : ℕ) (ts : List Tile) (d : List ℕ) (t : Tile) : Type 0 where
  pub faultless : Faultless start (t ∷ ts)
  pub rest : List ℕ
  pub split : d ≡ t.bytes ++ rest
  pub some : 0 < length t.bytes
  -- it is there whatever follows it
  pub stays : (more : List ℕ) → verdict (grammar start ts) (t.bytes ++ more) ≡ tile t

-- one tile more: what is after a faultless tiling makes a longer one
pub grows : (start : ℕ) (ts : List Tile) (d : List ℕ) (t : Tile) → Faultless start ts → verdict (grammar start ts) d ≡ tile t
    → Grown start ts d t
grows start ts d t f e =
    let c : Cut (grammar start ts) d t = search (verdict-cut, Guarded-grammar) in
    search (tile_least, verdict-more)

-- the tiles from one place on, in the order of the stream, and the ending
abbrev pub Runs : (start : ℕ) → List Tile → List ℕ → List Tile → Ending → Type 0
Runs start earlier d [] e = verdict (grammar start earlier) d ≡ final e
Runs start earlier d (t ∷ later) e = (verdict (grammar start earlier) d ≡ tile t) × (rest : List ℕ) × (d ≡ t.bytes ++ rest)
    × Runs start (t ∷ earlier) rest later e

-- the ending of a verdict
abbrev ending_of : Verdict → Ending
ending_of (final e) = e
ending_of (tile t) = ended 0

abbrev pub onto : List Tile → List Tile → List Tile
onto [] later = later
onto (t ∷ ts) later = onto ts (t ∷ later)

onto-onto : (ts later : List Tile) → onto (onto ts later) [] ≡ onto later ts
onto-onto [] later = refl
onto-onto (t ∷ ts) later = onto-onto ts (t ∷ later)

runs_from : (start : ℕ) (ts : List Tile) (stream rest : List ℕ) (later : List Tile) (e : Ending) → Faultless start ts → stream ≡ bytes_of ts
    ++ rest
    → Runs start ts rest later e → Runs start [] stream (onto ts later) e
runs_from start [] stream rest later e f w r = subst (λ (x : List ℕ). Runs start [] x later e) (sym w) r
runs_from start (t ∷ ts) stream rest later e f w r =
    let g : Grown start ts t.bytes t = grows start ts t.bytes t f.0 f.1 in
    runs_from start ts stream (t.bytes ++ rest) (t ∷ later) e f.0 (w ∙ append_assoc (bytes_of ts) t.bytes rest)
    (g.stays rest, rest, refl, r)

runs_same : (start : ℕ) (ts : List Tile) (d : List ℕ) (xs ys : List Tile) (e f : Ending) → Runs start ts d xs e → Runs start ts d ys f
    → (xs ≡ ys) × (e ≡ f)
runs_same start ts d [] [] e f p q = grind arith
runs_same start ts d [] (y ∷ ys) e f p q = let h : final e ≡ tile y = sym p ∙ q.0 in cc
runs_same start ts d (x ∷ xs) [] e f p q = let h : tile x ≡ final f = sym p.0 ∙ q in cc
runs_same start ts d (x ∷ xs) (y ∷ ys) e f p q =
    let r : q.1 ≡ p.1 = sym (append_cancel_left x.bytes p.1 q.1 cc) in
    grind (arith, runs_same start (x ∷ ts) p.1 xs ys e f p.3 (grind arith))

-- one stream has one longest faultless tiling, and one ending
pub reads_same : (stream : List ℕ) (start : ℕ) (ts us : List Tile) (e f : Ending) → Reads stream start ts e → Reads stream start us f
    → (ts ≡ us) × (e ≡ f)
reads_same stream start ts us e f p q =
    let (s, k) = runs_same start [] stream (onto ts []) (onto us []) e f (search runs_from) (search runs_from) in
    (sym (onto-onto ts []) ∙ (grind (arith, onto-onto)), k)

-- a reading is determined
pub reading_same : (stream : List ℕ) (start features : ℕ) (xs ys : List Event) → Reading stream start features xs
    → Reading stream start features ys → xs ≡ ys
reading_same stream start features xs ys p q =
    let (s, k) = reads_same stream start p.tiles q.tiles p.end q.end p.reads q.reads in
    cc

-- a reading whose tiles begin with these
pub record Onward (stream : List ℕ) (start : ℕ) (first : List Tile) : Type 0 where
  pub tiles : List Tile
  pub end : Ending
  pub reads : Reads stream start tiles end
  pub later : List Tile
  pub begins : tiles ≡ later ++ first

-- one tile fewer
shorter : (stream : List ℕ) (start : ℕ) (first : List Tile) (t : Tile) → Onward stream start (t ∷ first) → Onward stream start first
shorter stream start first t o = record {
  tiles = o.tiles;
  end = o.end;
  reads = o.reads;
  later = o.later ++ t ∷ [];
  begins = o.begins ∙ sym (append_assoc o.later (t ∷ []) first);
}

onward_at : (stream : List ℕ) (start : ℕ) (ts : List Tile) (rest : List ℕ) → Faultless start ts → stream ≡ bytes_of ts ++ rest
    → ((t : Tile) (r : List ℕ) → length r < length rest → Faultless start (t ∷ ts) → stream ≡ bytes_of (t ∷ ts) ++ r
    → Onward stream start (t ∷ ts))
    → (v : Verdict) → verdict (grammar start ts) rest ≡ v → Onward stream start ts
onward_at stream start ts rest f w next (final e) q =
    record { tiles = ts; end = e; reads = record { rest = rest; whole = w; faultless = f; stops = q }; later = []; begins = refl }
onward_at stream start ts rest f w next (tile t) q =
    let g : Grown start ts rest t = grows start ts rest t f q in
    let n : length rest ≡ length t.bytes + length g.rest = ap (λ (x : List ℕ). length x) g.split ∙ length-append t.bytes g.rest in
    shorter stream start ts t (next t g.rest (omega arith) g.faultless
    (w ∙ (ap (λ (x : List ℕ). bytes_of ts ++ x) g.split ∙ sym (append_assoc (bytes_of ts) t.bytes g.rest))))

onward_for : (stream : List ℕ) (start fuel : ℕ) (ts : List Tile) (rest : List ℕ) → length rest ≤ fuel → Faultless start ts → stream
    ≡ bytes_of ts ++ rest → Onward stream start ts
onward_for stream start zero ts rest l f w = onward_at stream start ts rest f w (λ t r s. absurd (omega arith))
    (verdict (grammar start ts) rest) refl
onward_for stream start (suc fuel) ts rest l f w =
    onward_at stream start ts rest f w (λ t r s g z. onward_for stream start fuel (t ∷ ts) r (omega arith) g z)
    (verdict (grammar start ts) rest) refl

-- each faultless tiling of a prefix of a stream begins a reading
pub onward : (stream : List ℕ) (start : ℕ) (ts : List Tile) (rest : List ℕ) → Faultless start ts → stream ≡ bytes_of ts ++ rest
    → Onward stream start ts
onward stream start ts rest f w = onward_for stream start (length rest) ts rest (le_refl (length rest)) f w

-- every stream has a reading
pub reads_all : (stream : List ℕ) (start : ℕ) → Onward stream start []
reads_all stream start = onward stream start [] stream tt refl

-- nothing more comes where no bytes are left
pub stops_at : (start : ℕ) (ts : List Tile) → Faultless start ts → (v : Verdict) → verdict (grammar start ts) [] ≡ v
    → Reads (bytes_of ts) start ts (ending_of v)
stops_at start ts f (final e) q = record { rest = []; whole = sym (append-nil (bytes_of ts)); faultless = f; stops = q }
stops_at start ts f (tile t) q =
    let g : Grown start ts [] t = grows start ts [] t f q in
    let n : 0 ≡ length t.bytes + length g.rest = ap (λ (x : List ℕ). length x) g.split ∙ length-append t.bytes g.rest in
    absurd (omega arith)
