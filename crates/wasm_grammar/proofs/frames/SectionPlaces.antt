-- The sections of a reading tile an accepted stream.
use Rattle.wasm_grammar.proofs.Common.{arith, ◌≡◌, List, [], ◌∷◌, ◌++◌, refl, ap, ℕ, ◌+◌, length, ◌<◌, sym, ◌∙◌, nat_eq, eqb-true}
use Rattle.wasm_grammar.proofs.Common.{append-nil, append_assoc, ◌-◌, length-append, map, take_at, drop_at, All-push, All, flat_map, Range}
use Rattle.wasm_grammar.proofs.Common.{IsNumber, SectionFrame, IsAccepted, header_bytes, IsSized, frame_bytes, ended, kind_of, code, Tile}
use Rattle.wasm_grammar.proofs.Common.{tile, section, content_grammar, verdict, Reads, events_of, sections_of, bytes_of, context_of}
use Rattle.wasm_grammar.proofs.Common.{bodies_left, bytes_left, encoding_of, grammar, Encoding}
use Rattle.wasm_grammar.specs.SectionLaws.{SectionsTile}
use Rattle.wasm_grammar.specs.Sections.{bytes_in, id_and_bytes, id_and_content, places_of}
use Rattle.wasm_grammar.proofs.PlainLists.{all_prefix}
use Rattle.wasm_grammar.proofs.accepted.Headers.{HeaderParts, header_parts}
use Rattle.wasm_grammar.proofs.accepted.KindIds.{code_has_its_id}
use Rattle.wasm_grammar.proofs.accepted.Parts.{SectionParts, WholeParts, content_parts, HeadParts, head_parts, BodyParts}
use Rattle.wasm_grammar.proofs.accepted.Tiles.{made, IsWhole}
use Rattle.wasm_grammar.proofs.accepted.Walks.{stream_of, stream_more, accepted_reads}
use Rattle.wasm_grammar.proofs.frames.OpenSections.{Goes, closed_at, sections_of_tiles}
use Rattle.wasm_grammar.proofs.frames.Reported.{section_at, sections_more, sections_all}
use Rattle.wasm_grammar.proofs.frames.Same.{frames_same}
use Rattle.wasm_grammar.proofs.readings.Endings.{header_end, inside_end}
use Rattle.wasm_grammar.proofs.readings.Readings.{reads_same}

-- ---- where sections are

-- how many bytes sections have
abbrev size_of : List SectionFrame → ℕ
size_of fs = length (flat_map frame_bytes fs)

-- one more section is after the others
places_push : (offset : ℕ) (fs : List SectionFrame) (f : SectionFrame) → places_of offset (fs ++ f ∷ []) ≡ places_of offset fs
    ++ places_of (offset + size_of fs) (f ∷ [])
places_push offset [] f = ap (λ (o : ℕ). places_of o (f ∷ [])) (omega arith)
places_push offset (g ∷ fs) f = grind (arith, length-append, places_push (offset + length (frame_bytes g)) fs f)

-- the range of a section has its content
range_bytes : (stream prefix rest : List ℕ) (start offset : ℕ) (f : SectionFrame) → stream ≡ prefix ++ (frame_bytes f ++ rest) → offset
    ≡ start + length prefix
    → bytes_in stream start (record { start = offset + 1 + length f.sized.field; end = offset + length (frame_bytes f) }) ≡ f.sized.content
range_bytes stream prefix rest start offset f w o =
    let field : List ℕ = f.id ∷ f.sized.field in
    let m : length (prefix ++ field) ≡ length prefix + length field = length-append prefix field in
    let s : stream ≡ (prefix ++ field) ++ (f.sized.content ++ rest) = w ∙ simp append_assoc refl in
    grind (arith, drop_at, take_at, length-append)

-- the ranges of sections have their contents
ranges_bytes : (stream prefix : List ℕ) (start offset : ℕ) (fs : List SectionFrame) → stream ≡ prefix ++ flat_map frame_bytes fs → offset
    ≡ start + length prefix
    → map (id_and_bytes stream start) (places_of offset fs) ≡ map id_and_content fs
ranges_bytes stream prefix start offset [] w o = refl
ranges_bytes stream prefix start offset (f ∷ fs) w o =
    let b : bytes_in stream start (record { start = offset + 1 + length f.sized.field; end = offset + length (frame_bytes f) })
    ≡ f.sized.content = search range_bytes in
    let t = ranges_bytes stream (prefix ++ frame_bytes f) start (offset + length (frame_bytes f)) fs
    (w ∙ sym (append_assoc prefix (frame_bytes f) (flat_map frame_bytes fs))) (omega (arith, length-append prefix (frame_bytes f))) in
    grind arith

-- ---- the sections of tiles

-- The tiles are a header and these sections, which are reported where they are.
record Closed (start features : ℕ) (ts : List Tile) : Type 0 where
  encoding : Encoding
  frames : List SectionFrame
  sized : All (λ f. IsSized f.sized) frames
  joined : bytes_of ts ≡ stream_of encoding frames
  places : sections_of (events_of start features ts) ≡ places_of (start + length (header_bytes encoding)) frames
  whole : bodies_left ts + bytes_left ts ≡ 0

-- The tiles are a header, these sections, and a prefix of a code section, which is reported with all its length.
record Open (start features : ℕ) (ts : List Tile) : Type 0 where
  encoding : Encoding
  frames : List SectionFrame
  sized : All (λ f. IsSized f.sized) frames
  size : ℕ
  field : List ℕ
  long : IsNumber field size
  inner : List ℕ
  misses : size ≡ length inner + bytes_left ts
  joined : bytes_of ts ≡ stream_of encoding frames ++ 10 ∷ (field ++ inner)
  places : sections_of (events_of start features ts)
      ≡ places_of (start + length (header_bytes encoding)) frames
      ++ (
        10,
        record {
          start = start + length (stream_of encoding frames) + 1 + length field;
          end = start + length (stream_of encoding frames) + 1 + length field + size;
        },
      ) ∷ []

-- one more section, which is reported with its range
push_places : (start : ℕ) (encoding : Encoding) (fs : List SectionFrame) (f : SectionFrame) (low high : ℕ) → low
    ≡ start + length (stream_of encoding fs) + 1 + length f.sized.field → high ≡ low + length f.sized.content
    → places_of (start + length (header_bytes encoding)) fs ++ (f.id, record { start = low; end = high }) ∷ []
    ≡ places_of (start + length (header_bytes encoding)) (fs ++ f ∷ [])
push_places start encoding fs f low high l h = grind (arith, stream_of, length-append, places_push)

-- a header alone
header_closed : (start features : ℕ) (t : Tile) → All (λ b. b < 256) t.bytes → verdict (grammar start []) t.bytes ≡ tile t
    → Closed start features (t ∷ [])
header_closed start features t a h =
    let p : HeaderParts t = header_parts start t.bytes t a h in
    grind arith

-- a code section that misses nothing is whole
closes : (start features : ℕ) (ts : List Tile) → Open start features ts → bodies_left ts + bytes_left ts ≡ 0
    → Closed start features ts
closes start features ts q z =
    let f : SectionFrame = record { id = 10; sized = record { field = q.field; content = q.inner } } in
    let n : q.size ≡ length q.inner = omega (arith, q.misses) in
    let s : IsSized f.sized = cc in
    record {
      encoding = q.encoding;
      frames = q.frames ++ f ∷ [];
      sized = search All-push;
      joined = q.joined ∙ stream_more q.encoding q.frames f (stream_of q.encoding q.frames) refl;
      places = q.places ∙ push_places start q.encoding q.frames f _ _ refl (omega (arith, n));
      whole = z;
    }

-- after whole sections, one more that is one tile
closed_whole : (start features : ℕ) (u : Tile) (ts : List Tile) (o : ℕ) (t : Tile) → verdict (grammar start (u ∷ ts)) t.bytes ≡ tile t
    → Closed start features (u ∷ ts) → (s : SectionParts (context_of (u ∷ ts)) o t)
    → IsWhole (kind_of (encoding_of (u ∷ ts)) s.id) → Closed start features (t ∷ u ∷ ts)
closed_whole start features u ts o t h q s w =
    let at : ℕ = o + 1 + length s.field in
    let c : WholeParts (context_of (u ∷ ts)) w.0 s.id at s.size s.rest = grind (arith, content_parts) in
    let f : SectionFrame = record { id = s.id; sized = record { field = s.field; content = c.content } } in
    let z : t ≡ made (section w.0 s.id c.content) (frame_bytes f) = cc in
    let low : ℕ = start + length (bytes_of (u ∷ ts)) in
    let n : length (bytes_of (u ∷ ts)) ≡ length (stream_of q.encoding q.frames) = rw q.joined in
    let m : length (s.field ++ c.content) ≡ length s.field + length c.content = length-append s.field c.content in
    let p : sections_of (events_of start features (t ∷ u ∷ ts)) ≡ sections_of (events_of start features (u ∷ ts))
    ++ (s.id, record { start = low + length (frame_bytes f) - length c.content; end = low + length (frame_bytes f) }) ∷ [] =
    grind (arith, sections_more) in
    record {
      encoding = q.encoding;
      frames = q.frames ++ f ∷ [];
      sized = All-push (λ g. IsSized g.sized) q.frames f q.sized (cc);
      joined = ap (λ (x : Tile). bytes_of (u ∷ ts) ++ x.bytes) z ∙ stream_more q.encoding q.frames f (bytes_of (u ∷ ts)) q.joined;
      places = p ∙ (ap (λ (l : List (ℕ × Range ℕ)). l ++ (
        s.id,
        record { start = low + length (frame_bytes f) - length c.content; end = low + length (frame_bytes f) },
      ) ∷ []) q.places
          ∙ push_places start q.encoding q.frames f (low + length (frame_bytes f) - length c.content) (low + length (frame_bytes f))
          (omega arith) (omega arith));
      whole = rw z;
    }

-- after whole sections, the head of a code section
closed_code : (start features : ℕ) (u : Tile) (ts : List Tile) (o : ℕ) (t : Tile) → verdict (grammar start (u ∷ ts)) t.bytes ≡ tile t
    → Closed start features (u ∷ ts) → (s : SectionParts (context_of (u ∷ ts)) o t)
    → kind_of (encoding_of (u ∷ ts)) s.id ≡ code → Open start features (t ∷ u ∷ ts)
closed_code start features u ts o t h q s e =
    let at : ℕ = o + 1 + length s.field in
    let v : verdict (content_grammar (context_of (u ∷ ts)) code s.id at s.size) s.others
    ≡ tile s.rest = cc in
    let c : HeadParts (context_of (u ∷ ts)) at s.size s.rest = search head_parts in
    grind (arith, length-append, sections_more, code_has_its_id)

-- within a code section, one more body
open_body : (start features : ℕ) (u : Tile) (ts : List Tile) (t : Tile) → verdict (grammar start (u ∷ ts)) t.bytes ≡ tile t
    → Open start features (u ∷ ts) → BodyParts (bodies_left (u ∷ ts)) (bytes_left (u ∷ ts)) t → Open start features (t ∷ u ∷ ts)
open_body start features u ts t h q c =
    let l : bytes_left (t ∷ u ∷ ts) ≡ bytes_left (u ∷ ts) - length (c.field ++ c.content) =
    cc in
    let b : length t.bytes ≡ length (c.field ++ c.content) = rw c.is in
    record {
      encoding = q.encoding;
      frames = q.frames;
      sized = q.sized;
      size = q.size;
      field = q.field;
      long = q.long;
      inner = q.inner ++ t.bytes;
      misses = omega (arith, q.misses, c.fits, length-append c.field c.content, length-append q.inner t.bytes);
      joined = grind (arith, append_assoc, stream_of);
      places = (grind (arith, sections_more, section_at, append-nil)) ∙ q.places;
    }

-- whole sections, and a prefix of a code section, go on
places_go : (start features : ℕ) → Goes start (Closed start features) (Open start features)
places_go start features = record {
  header = header_closed start features;
  section = closed_whole start features;
  start_of_code = closed_code start features;
  body = open_body start features;
  closes = λ ts q e. closes start features ts q (eqb-true _ _ e);
  closed = λ ts q. ap (λ (x : ℕ). nat_eq x 0) q.whole;
}

-- ---- the sections of a reading

-- where the reading ends at its end, its tiles are a header and sections
closed_end : (stream : List ℕ) (start features p : ℕ) (ts : List Tile) → All (λ b. b < 256) stream → Reads stream start ts (ended p)
    → Closed start features ts × (stream ≡ bytes_of ts)
closed_end stream start features p [] a r = absurd (header_end start r.rest p r.stops)
closed_end stream start features p (t ∷ ts) a r =
    let us : List Tile = t ∷ ts in
    let (b, d, e) = inside_end (nat_eq (bodies_left us + bytes_left us) 0) (context_of us) (bodies_left us) (bytes_left us)
    (start + length (bytes_of us)) r.rest p r.stops in
    let f : All (λ b. b < 256) (bytes_of us) = all_prefix (λ b. b < 256) (bytes_of us) r.rest (rw r.whole at a) in (
      closed_at start (Closed start features) (Open start features) (places_go start features) us
          (sections_of_tiles start (Closed start features) (Open start features) (places_go start features) t ts r.faultless f) b,
      r.whole
          ∙ (ap (λ (x : List ℕ). bytes_of us ++ x) d ∙ append-nil (bytes_of us)),
    )

-- in one way only
report_sections : (stream : List ℕ) (start features : ℕ) (a : IsAccepted stream) (ts : List Tile) → Closed start features ts → stream
    ≡ bytes_of ts → All (λ f. IsSized f.sized) a.frames
    → sections_of (events_of start features ts) ≡ places_of (start + length (header_bytes a.encoding)) a.frames
report_sections stream start features a ts c w s =
    let q : ((c.encoding ≡ a.encoding) × (flat_map frame_bytes c.frames ≡ flat_map frame_bytes a.frames)) = grind arith in
    let f : c.frames ≡ a.frames = frames_same c.frames a.frames c.sized s q.1 in
    cc

pub sections_tile : SectionsTile
sections_tile stream start features events s a r =
    let (ts, e) = accepted_reads stream start s.fits a in
    let (z, y) = reads_same stream start r.tiles ts r.end (ended (start + length stream)) r.reads e in
    let (c, w) = closed_end stream start features (start + length stream) r.tiles s.each (rw y at r.reads) in
    let sized : All (λ f. IsSized f.sized) a.frames = grind arith in
    let p : sections_of events ≡ places_of (start + length (header_bytes a.encoding)) a.frames =
    ap sections_of r.listed ∙ (search (sections_all, report_sections)) in
    grind (arith, ranges_bytes)
