-- An accepted stream's reading ends at its end.
use Rattle.wasm_grammar.proofs.Common.{arith, ◌≡◌, inl, inr, true, false, List, [], ◌∷◌, ◌++◌, refl, ap, ℕ, ◌+◌, length, ◌≤◌, ◌<◌, sym, ◌∙◌}
use Rattle.wasm_grammar.proofs.Common.{nat_eq, append-nil, append_assoc, subst, ◌-◌, length-append, ◌^◌, common_steps, flat_map-append}
use Rattle.wasm_grammar.proofs.Common.{flat_map_more, All-head, All-tail, All, flat_map, SectionFrame, IsAccepted, header_bytes}
use Rattle.wasm_grammar.proofs.Common.{sized_bytes, frame_bytes, IsFrame, FitsAfter, CodeDivision, ended, kind_of, header_event}
use Rattle.wasm_grammar.proofs.Common.{section_event, code_events, FrameEvents, FramesEvents, Tile, version, tile, section, code_start}
use Rattle.wasm_grammar.proofs.Common.{final, verdict, section_grammar, code_id, Reads, events_of, Event, bytes_of, context_of, bodies_left}
use Rattle.wasm_grammar.proofs.Common.{bytes_left, grammar, is_start, Faultless, Encoding, Module}
use Rattle.wasm_grammar.proofs.accepted.Counts.{Knows}
use Rattle.wasm_grammar.proofs.accepted.Endings.{end_to}
use Rattle.wasm_grammar.proofs.accepted.Knows.{grammar_closed, knows_header, knows_section, knows_code}
use Rattle.wasm_grammar.proofs.accepted.Steps.{section_step, code_step, division_count, division_length, Through, bodies_walk}
use Rattle.wasm_grammar.proofs.accepted.Tiles.{made, IsWhole, whole_or_code, header_version, header_tile}
use Rattle.wasm_grammar.proofs.frames.TileEvents.{header_tile_event, section_tile_event, start_tile_event, push_events}

-- the bytes of a header and these frames
abbrev pub stream_of : Encoding → List SectionFrame → List ℕ
stream_of encoding fs = header_bytes encoding ++ flat_map frame_bytes fs

-- the events of tiles are a header's, and those of these frames
pub record ReportedAs (start features : ℕ) (encoding : Encoding) (fs : List SectionFrame) (tiles : List Tile) : Type 0 where
  pub inner : List Event
  pub sections : FramesEvents features encoding (start + length (header_bytes encoding)) fs inner
  pub listed : events_of start features tiles ≡ header_event start encoding ∷ inner

-- tiles that are a header and whole sections: these frames
pub record Closed (start : ℕ) (encoding : Encoding) (fs : List SectionFrame) (tiles : List Tile) : Type 0 where
  pub begun : is_start tiles ≡ false
  pub faultless : Faultless start tiles
  pub joined : bytes_of tiles ≡ stream_of encoding fs
  pub knows : Knows encoding fs (context_of tiles)
  pub closed : nat_eq (bodies_left tiles + bytes_left tiles) 0 ≡ true
  pub reported_as : (features : ℕ) → ReportedAs start features encoding fs tiles

-- some tiles are
pub record Reached (start : ℕ) (encoding : Encoding) (fs : List SectionFrame) : Type 0 where
  pub tiles : List Tile
  pub there : Closed start encoding fs tiles

-- a section after them, as it is in the stream
closed_verdict : (start : ℕ) (encoding : Encoding) (fs : List SectionFrame) (ts : List Tile) (c : Closed start encoding fs ts)
    (bytes : List ℕ) (t : Tile)
    → verdict (section_grammar (context_of ts) (start + length (bytes_of ts))) bytes ≡ tile t → verdict (grammar start ts) bytes ≡ tile t
closed_verdict start encoding fs ts c bytes t h = search grammar_closed

-- the bytes of one more frame
pub stream_more : (encoding : Encoding) (fs : List SectionFrame) (f : SectionFrame) (prefix : List ℕ) → prefix ≡ stream_of encoding fs
    → prefix ++ frame_bytes f ≡ stream_of encoding (fs ++ f ∷ [])
stream_more encoding fs f prefix e = ap (λ (x : List ℕ). x ++ frame_bytes f) e ∙ flat_map_more frame_bytes (header_bytes encoding) fs f

-- one more frame ends below 2^64
room_for : (start : ℕ) (encoding : Encoding) (fs : List SectionFrame) (f : SectionFrame) (prefix : List ℕ) → prefix ≡ stream_of encoding fs
    → start + length (stream_of encoding (fs ++ f ∷ [])) < 2 ^ 64
    → (start + length prefix) + length (frame_bytes f) < 2 ^ 64
room_for start encoding fs f prefix e r = grind (arith, common_steps, length-append, stream_more)

-- one more frame, with its events
reported_more :
    (start features : ℕ) (encoding : Encoding) (fs : List SectionFrame) (f : SectionFrame) (ts us : List Tile) (events : List Event)
    → bytes_of ts ≡ stream_of encoding fs → ReportedAs start features encoding fs ts
    → FrameEvents features encoding (start + length (bytes_of ts)) f events → events_of start features us ≡ events_of start features ts
    ++ events → ReportedAs start features encoding (fs ++ f ∷ []) us
reported_more start features encoding fs f ts us events j t e l = grind (arith, push_events)

-- one more frame that fits and is no code section
whole_step : (start : ℕ) (encoding : Encoding) (fs : List SectionFrame) (f : SectionFrame) → Reached start encoding fs
    → start + length (stream_of encoding (fs ++ f ∷ [])) < 2 ^ 64 → IsFrame encoding f → FitsAfter encoding fs f
    → IsWhole (kind_of encoding f.id) → Reached start encoding (fs ++ f ∷ [])
whole_step start encoding fs f q r i a w =
    let ts : List Tile = q.tiles in
    let c : Closed start encoding fs ts = q.there in
    let o : ℕ = start + length (bytes_of ts) in
    record {
      tiles = made (section w.0 f.id f.sized.content) (frame_bytes f) ∷ ts;
      there = record {
        begun = refl;
        faultless = (c.faultless, search (closed_verdict, section_step, room_for));
        joined = stream_more encoding fs f (bytes_of ts) c.joined;
        knows = search knows_section;
        closed = refl;
        reported_as = λ features.
            reported_more start features encoding fs f ts _ (section_event features o w.0 f ∷ []) c.joined (c.reported_as features)
            (rw w.1 refl)
            (search section_tile_event);
      };
    }

-- the bytes of a code section's head and bodies are the section's
code_bytes : (f : SectionFrame) (d : CodeDivision f.sized.content) → f.id ≡ code_id → (prefix : List ℕ)
    → (prefix ++ 10 ∷ (f.sized.field ++ d.field)) ++ flat_map sized_bytes d.bodies ≡ prefix ++ frame_bytes f
code_bytes f d z prefix = grind (arith, append_assoc)

-- one more code section that fits
module_step : (start : ℕ) (fs : List SectionFrame) (f : SectionFrame) → f.id ≡ code_id → CodeDivision f.sized.content
    → Reached start Module fs
    → start + length (stream_of Module (fs ++ f ∷ [])) < 2 ^ 64 → IsFrame Module f → FitsAfter Module fs f
    → Reached start Module (fs ++ f ∷ [])
module_step start fs f z d q r i a =
    let ts : List Tile = q.tiles in
    let c : Closed start Module fs ts = q.there in
    let n : ℕ = length f.sized.content - length d.field in
    let hb : List ℕ = 10 ∷ (f.sized.field ++ d.field) in
    let h : Tile = made (code_start (length d.bodies) (length d.field) n) hb in
    let v : verdict (grammar start ts) hb ≡ tile h = search (closed_verdict, code_step, room_for) in
    let l : length f.sized.content ≡ length d.field + length (flat_map sized_bytes d.bodies) = division_length f d in
    let t : Through start (h ∷ ts) d.bodies = grind (arith, bodies_walk) in
    record {
      tiles = t.tiles;
      there = record {
        begun = t.begun;
        faultless = t.faultless;
        joined = t.joined ∙ (search (code_bytes, stream_more));
        knows = t.knows Module (fs ++ f ∷ []) (search (knows_code, division_count));
        closed = t.closed;
        reported_as = λ features.
            reported_more start features Module fs f ts t.tiles (code_events features (start + length (bytes_of ts)) f d)
            c.joined (c.reported_as features)
            (rw (ap (kind_of Module) z) (d, refl))
            (grind (arith, length-append, append_assoc, start_tile_event));
      };
    }

-- one more frame that fits
frame_step : (start : ℕ) (encoding : Encoding) (fs : List SectionFrame) (f : SectionFrame) → Reached start encoding fs
    → start + length (stream_of encoding (fs ++ f ∷ [])) < 2 ^ 64 → IsFrame encoding f → FitsAfter encoding fs f
    → Reached start encoding (fs ++ f ∷ [])
frame_step start encoding fs f q r i a =
    elim (whole_or_code (kind_of encoding f.id)) [
      | inl w ↦ whole_step start encoding fs f q r i a w
      | inr k ↦ grind (arith, module_step)
    ]

-- the frames after some that are reached are reached
frames_walk : (start : ℕ) (encoding : Encoding) (all : List SectionFrame) → start + length (stream_of encoding all) < 2 ^ 64
    → ((earlier later : List SectionFrame) (f : SectionFrame) → all ≡ earlier ++ f ∷ later → FitsAfter encoding earlier f)
    → (later earlier : List SectionFrame) → earlier ++ later ≡ all → All (IsFrame encoding) later → Reached start encoding earlier
    → Reached start encoding all
frames_walk start encoding all r order [] earlier e a q = subst (Reached start encoding) (sym (append-nil earlier) ∙ e) q
frames_walk start encoding all r order (f ∷ later) earlier e a q =
    let w : (earlier ++ f ∷ []) ++ later ≡ all = append_assoc earlier (f ∷ []) later ∙ e in
    let l : length (stream_of encoding (earlier ++ f ∷ [])) ≤ length (stream_of encoding all) =
    grind (arith, flat_map-append, length-append) in
    frames_walk start encoding all r order later (earlier ++ f ∷ []) w (All-tail (IsFrame encoding) f later a)
    (grind (arith, frame_step, All-head))

-- a header is no frame yet
begins : (start : ℕ) (encoding : Encoding) → Reached start encoding []
begins start encoding = record {
  tiles = made (version (header_version encoding) encoding) (header_bytes encoding) ∷ [];
  there = grind (arith, header_tile, append-nil, knows_header, header_tile_event);
}

-- the tiles of an accepted stream are its frames
pub accepted_walk : (stream : List ℕ) (start : ℕ) → start + length stream < 2 ^ 64 → (a : IsAccepted stream)
    → Reached start a.encoding a.frames
accepted_walk stream start r a =
    frames_walk start a.encoding a.frames (grind arith) a.order a.frames [] refl a.each
    (begins start a.encoding)

-- the stream ends after them
pub accepted_ends_there : (stream : List ℕ) (start : ℕ) (a : IsAccepted stream) (q : Reached start a.encoding a.frames)
    → Reads stream start q.tiles (ended (start + length stream))
unfolding verdict section_grammar
accepted_ends_there stream start a q =
    let v : verdict (grammar start q.tiles) [] ≡ final (ended (start + length (bytes_of q.tiles))) =
    search (grammar_closed, end_to) in
    grind (arith, append-nil)

-- an accepted stream's reading ends at its end
pub accepted_reads : (stream : List ℕ) (start : ℕ) → start + length stream < 2 ^ 64 → IsAccepted stream → (tiles : List Tile)
    × Reads stream start tiles (ended (start + length stream))
accepted_reads stream start r a = let q : Reached start a.encoding a.frames = accepted_walk stream start r a in
    (q.tiles, accepted_ends_there stream start a q)
