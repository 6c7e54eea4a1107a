-- The frames that tiles are, and the code section within which they end.
use Rattle.wasm_grammar.proofs.Common.{arith, ◌≡◌, ◌⊎◌, true, List, [], ◌∷◌, ◌++◌, refl, ℕ, ◌+◌, length, None, sym, ◌∙◌, nat_eq, append-nil}
use Rattle.wasm_grammar.proofs.Common.{append_assoc, ◌-◌, length-append, lit<, common_steps, flat_map_more, All-nil, All-push, All}
use Rattle.wasm_grammar.proofs.Common.{flat_map, IsNumber, SectionFrame, frame_count, IsSection, Sized, sized_bytes, IsSized, frame_bytes}
use Rattle.wasm_grammar.proofs.Common.{IsFrame, FitsAfter, CodeDivision, kind_of, code, rank_of, Tile, SectionContext, wrong_count, tile}
use Rattle.wasm_grammar.proofs.Common.{section, code_start, code_entry, content_grammar, verdict, code_id, bytes_of, context_of}
use Rattle.wasm_grammar.proofs.Common.{bodies_left, bytes_left, encoding_of, Encoding, Module}
use Rattle.wasm_grammar.proofs.PlainLists.{split_last}
use Rattle.wasm_grammar.proofs.accepted.Contents.{good_from}
use Rattle.wasm_grammar.proofs.accepted.Counts.{Knows}
use Rattle.wasm_grammar.proofs.accepted.Fits.{rank_from, code_from, data_from}
use Rattle.wasm_grammar.proofs.accepted.KindIds.{code_has_its_id}
use Rattle.wasm_grammar.proofs.accepted.Knows.{knows_section, knows_code, knows_body}
use Rattle.wasm_grammar.proofs.accepted.Parts.{SectionParts, WholeParts, content_parts, HeadParts, head_parts, BodyParts}
use Rattle.wasm_grammar.proofs.accepted.Tiles.{made, IsWhole, number_on, not_code}
use Rattle.wasm_grammar.proofs.accepted.Walks.{stream_of, stream_more}
use Rattle.wasm_grammar.proofs.parts.Placed.{Follows}

-- good sections in their order
pub record InOrder (encoding : Encoding) (fs : List SectionFrame) : Type 0 where
  pub each : All (IsFrame encoding) fs
  pub order : (earlier later : List SectionFrame) (f : SectionFrame) → fs ≡ earlier ++ f ∷ later → FitsAfter encoding earlier f

-- nothing is in no list
no_more : (earlier later : List SectionFrame) (f : SectionFrame) → [] ≡ earlier ++ f ∷ later → ⊥
no_more [] later f e = cc
no_more (g ∷ earlier) later f e = cc

-- no section is in order
pub in_order_none : (encoding : Encoding) → InOrder encoding []
in_order_none encoding = grind (arith, All-nil, no_more)

-- each of the sections and one more fits
fits_push : (encoding : Encoding) (fs earlier : List SectionFrame) (f g : SectionFrame) → FitsAfter encoding fs f
    → ((earlier later : List SectionFrame) (h : SectionFrame) → fs ≡ earlier ++ h ∷ later → FitsAfter encoding earlier h)
    → ((earlier ≡ fs) × (g ≡ f)) ⊎ ((more : List SectionFrame) × (fs ≡ earlier ++ g ∷ more)) → FitsAfter encoding earlier g
fits_push encoding fs earlier f g a order h7 = grind arith

-- one more that fits
pub in_order_push : (encoding : Encoding) (fs : List SectionFrame) (f : SectionFrame) → InOrder encoding fs → IsFrame encoding f
    → FitsAfter encoding fs f → InOrder encoding (fs ++ f ∷ [])
in_order_push encoding fs f p i a = record {
  each = All-push (IsFrame encoding) fs f p.each i;
  order = λ earlier later g e. fits_push encoding fs earlier f g a p.order (split_last fs earlier later f g e);
}

-- The tiles are a header and whole sections.
pub record Settled (ts : List Tile) : Type 0 where
  pub frames : List SectionFrame
  pub joined : bytes_of ts ≡ stream_of (encoding_of ts) frames
  pub knows : Knows (encoding_of ts) frames (context_of ts)
  pub sections : InOrder (encoding_of ts) frames
  pub closed : nat_eq (bodies_left ts + bytes_left ts) 0 ≡ true

-- The tiles are a header, whole sections, and a prefix of a code section.
pub record Pending (ts : List Tile) : Type 0 where
  pub of_module : encoding_of ts ≡ Module
  pub frames : List SectionFrame
  pub sections : InOrder Module frames
  -- its length and its count, and the fields that say them
  pub size : ℕ
  pub field : List ℕ
  pub sized : IsNumber field size
  pub count : ℕ
  pub head : List ℕ
  pub counted : IsNumber head count
  -- its bodies so far
  pub bodies : List Sized
  pub each : All IsSized bodies
  pub joined : bytes_of ts ≡ stream_of Module frames ++ code_id ∷ (field ++ (head ++ flat_map sized_bytes bodies))
  pub bodies_miss : count ≡ length bodies + bodies_left ts
  pub bytes_miss : size ≡ length head + length (flat_map sized_bytes bodies) + bytes_left ts
  pub knows : (f : SectionFrame) → f.id ≡ code_id → frame_count f ≡ count → Knows Module (frames ++ f ∷ []) (context_of ts)
  pub fits : (f : SectionFrame) → f.id ≡ code_id → frame_count f ≡ count → FitsAfter Module frames f

-- the section that has all its bodies
abbrev whole_code : List ℕ → List ℕ → List Sized → SectionFrame
whole_code field head bodies = record { id = code_id; sized = record { field = field; content = head ++ flat_map sized_bytes bodies } }

-- a code section that misses nothing is whole
pub settles : (ts : List Tile) → Pending ts → nat_eq (bodies_left ts + bytes_left ts) 0 ≡ true → Settled ts
settles ts p e =
    let z : bodies_left ts + bytes_left ts ≡ 0 = grind arith in
    let f : SectionFrame = whole_code p.field p.head p.bodies in
    let s : p.size ≡ length (p.head ++ flat_map sized_bytes p.bodies) = grind (arith, length-append) in
    let c : frame_count f ≡ p.count = grind (arith, number_on) in
    let d : CodeDivision f.sized.content = grind arith in
    let i : IsFrame Module f = record { id = lit< tt; sized = cc; content = d } in
    let w : bytes_of ts ≡ stream_of Module (p.frames ++ f ∷ []) = p.joined
    ∙ stream_more Module p.frames f (stream_of Module p.frames) refl in
    record {
      frames = p.frames ++ f ∷ [];
      joined = cc;
      knows = grind arith;
      sections = rw p.of_module (in_order_push Module p.frames f p.sections i (p.fits f refl c));
      closed = e;
    }

-- the frame of a section that is one tile
abbrev frame_of : ℕ → List ℕ → List ℕ → SectionFrame
frame_of id field content = record { id = id; sized = record { field = field; content = content } }

-- a section that is one tile fits after the frames before it
whole_fits : (p : SectionContext) (fs : List SectionFrame) (o : ℕ) (t : Tile) (s : SectionParts p o t) (at : ℕ) → Knows p.encoding fs p
    → (w : IsWhole (kind_of p.encoding s.id)) (c : WholeParts p w.0 s.id at s.size s.rest)
    → FitsAfter p.encoding fs (frame_of s.id s.field c.content)
whole_fits p fs o t s at k w c =
    let no : IsSection p.encoding code_id (frame_of s.id s.field c.content) → ⊥ = λ y. not_code w.0 (cc) in
    record {
      ranks = search rank_from;
      bodies = λ y. absurd (no y);
      functions = λ y. absurd (no y);
      segments = search data_from;
    }

-- after whole sections, one more that is one tile
pub whole_settled : (ts : List Tile) (o : ℕ) (t : Tile) → Settled ts → (s : SectionParts (context_of ts) o t)
    → IsWhole (kind_of (encoding_of ts) s.id) → Settled (t ∷ ts)
whole_settled ts o t q s w =
    let e : Encoding = encoding_of ts in
    let at : ℕ = o + 1 + length s.field in
    let c : WholeParts (context_of ts) w.0 s.id at s.size s.rest = grind (arith, content_parts) in
    let f : SectionFrame = frame_of s.id s.field c.content in
    let z : t ≡ made (section w.0 s.id c.content) (frame_bytes f) = cc in
    let r : Settled (made (section w.0 s.id c.content) (frame_bytes f) ∷ ts) = record {
      frames = q.frames ++ f ∷ [];
      joined = stream_more e q.frames f (bytes_of ts) q.joined;
      knows = search knows_section;
      sections = in_order_push e q.frames f q.sections (grind (arith, good_from))
          (whole_fits (context_of ts) q.frames o t s at q.knows w c);
      closed = refl;
    } in
    rw z r

-- a code section with the right rank and count fits after the frames before it
code_fits : (p : SectionContext) (fs : List SectionFrame) → Knows Module fs p → (at count : ℕ)
    → Follows p (rank_of (kind_of Module code_id) code_id)
    → wrong_count p at count ≡ None → (f : SectionFrame) → f.id ≡ code_id → frame_count f ≡ count → FitsAfter Module fs f
code_fits p fs k at count r w f z c = grind (arith, common_steps, code_from, rank_from)

-- after whole sections, the head of a code section
pub code_pending : (ts : List Tile) (o : ℕ) (t : Tile) → Settled ts → (s : SectionParts (context_of ts) o t) → kind_of (encoding_of ts) s.id
    ≡ code → Pending (t ∷ ts)
code_pending ts o t q s e =
    let (m, i) = code_has_its_id (encoding_of ts) s.id e in
    let at : ℕ = o + 1 + length s.field in
    let v : verdict (content_grammar (context_of ts) code s.id at s.size) s.others
    ≡ tile s.rest = cc
    in
    let h : HeadParts (context_of ts) at s.size s.rest = search head_parts in
    let n : ℕ = s.size - length h.head in
    let b : List ℕ = code_id ∷ (s.field ++ h.head) in
    let z : t ≡ made (code_start h.count (length h.head) n) b =
    cc in
    let k : Knows Module q.frames (context_of ts) = rw (← m) q.knows in
    let l : s.size ≡ length h.head + 0 + n = omega (arith, h.fits) in
    let r : Pending (made (code_start h.count (length h.head) n) b ∷ ts) = record {
      of_module = m;
      frames = q.frames;
      sections = grind arith;
      size = s.size;
      field = s.field;
      sized = s.whole;
      count = h.count;
      head = h.head;
      counted = h.whole;
      bodies = [];
      each = All-nil IsSized;
      joined = grind (arith, stream_of, append-nil);
      bodies_miss = omega arith;
      bytes_miss = l;
      knows = λ f a c. knows_code q.frames ts f h.count (length h.head) n b a c k;
      fits = code_fits (context_of ts) q.frames k at h.count (cc)
          h.right;
    } in
    rw z r

-- how many bytes the count and the bodies have with one more body
body_bytes : (head : List ℕ) (bodies : List Sized) (s : Sized) → length head + length (flat_map sized_bytes bodies) + length (sized_bytes s)
    ≡ length head + length (flat_map sized_bytes (bodies ++ s ∷ []))
body_bytes head bodies s = grind (arith, common_steps, flat_map_more, length-append)

-- within a code section, one more body
pub body_pending : (ts : List Tile) (t : Tile) → Pending ts → BodyParts (bodies_left ts) (bytes_left ts) t → Pending (t ∷ ts)
body_pending ts t q h =
    let s : Sized = record { field = h.field; content = h.content } in
    let b : List ℕ = sized_bytes s in
    let l : length q.bodies + 1 ≡ length (q.bodies ++ s ∷ []) = sym (length-append q.bodies (s ∷ [])) in
    let n : length b ≡ length h.field + length h.content = length-append h.field h.content in
    let m : q.count ≡ length (q.bodies ++ s ∷ []) + (bodies_left ts - 1) = omega (arith, q.bodies_miss, h.missing) in
    let y : q.size ≡ length q.head + length (flat_map sized_bytes (q.bodies ++ s ∷ [])) + (bytes_left ts - length b) =
    omega (arith, q.bytes_miss, h.fits, body_bytes q.head q.bodies s) in
    let r : Pending (made (code_entry h.content) b ∷ ts) = record {
      of_module = q.of_module;
      frames = q.frames;
      sections = q.sections;
      size = q.size;
      field = q.field;
      sized = q.sized;
      count = q.count;
      head = q.head;
      counted = q.counted;
      bodies = q.bodies ++ s ∷ [];
      each = All-push IsSized q.bodies s q.each h.whole;
      joined = grind (arith, append_assoc, flat_map_more);
      bodies_miss = m;
      bytes_miss = y;
      knows = λ f a c. knows_body Module (q.frames ++ f ∷ []) ts h.content b (q.knows f a c);
      fits = q.fits;
    } in
    rw h.is r
