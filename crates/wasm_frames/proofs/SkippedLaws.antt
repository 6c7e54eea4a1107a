-- What is after the rest of a code section that a parser passes.
use Rattle.wasm_frames.proofs.Common.{◌≡◌, ℕ, ◌+◌, ◌<◌, ◌≤◌, Bool, true, false, List, [], ◌∷◌, ◌++◌, length, refl, sym, ap, ◌∙◌, arith}
use Rattle.wasm_frames.proofs.Common.{length-append, append_assoc, append-nil, nat_eq, cond, Some, None, is_some, flat_map-append, All-nil}
use Rattle.wasm_frames.proofs.Common.{All-cons, All, Window, bodied, tiles_consume, consumed_by, Tile, tile, Shape, SectionContext}
use Rattle.wasm_frames.proofs.Common.{code_entry, verdict, body_grammar, section_grammar, Event, tile_report, event_of, events_of, bytes_of}
use Rattle.wasm_frames.proofs.Common.{grammar, bytes_left, counts, ParserState, IsStateAfter, greatest, skipped_state}
use Rattle.std.proofs.lemmas.List.{append_cancel_left}
use Rattle.std.proofs.lemmas.List.Elements.{All-append}
use Rattle.wasm_grammar.specs.Sections.{ReportsBody}
use Rattle.wasm_grammar.specs.Tiling.{is_start, encoding_of, Faultless}
use Rattle.wasm_frames.specs.Along.{Along}
use Rattle.wasm_frames.specs.ParserState.{ends_in_code}
use Rattle.wasm_frames.specs.Skipped.{CompletesCode, SkipsSection, LeavesOut, SkippingLeavesOutBodies}
use Rattle.wasm_grammar.proofs.parts.Guarded.{tile_least}
use Rattle.wasm_grammar.proofs.parts.Placed.{IsBody}
use Rattle.wasm_grammar.proofs.readings.Longest.{longest}
use Rattle.wasm_grammar.proofs.readings.Readings.{stops_at}
use Rattle.wasm_grammar.specs.Reading as reading

-- where bytes of a code section are left, a body comes
body_at : (b : Bool) (context : SectionContext) (bodies code_bytes offset : ℕ) (d : List ℕ) (t : Tile) → nat_eq (bodies + code_bytes) 0 ≡ b
    → 0 < code_bytes → verdict (cond b (section_grammar context offset) (body_grammar bodies code_bytes offset)) d ≡ tile t → IsBody t.shape
body_at b context bodies code_bytes offset d t e l v = grind (arith, bodied)

-- tiles after which a parser knows the same as after others, except for the remaining bytes of a code section
record KnowsSame (ts us : List Tile) : Type 0 where
  encoding : encoding_of ts ≡ encoding_of us
  rank : greatest ts ≡ greatest us
  same_counts : (n : ℕ) → counts n ts ≡ counts n us
  in_code : ends_in_code ts ≡ true
  not_start : is_start ts ≡ is_start us
  code_bytes : bytes_left ts + length (bytes_of ts) ≡ bytes_left us + length (bytes_of us)

-- tiles that take no more than the remaining bytes of a code section are its bodies
only_bodies : (start : ℕ) (us later : List Tile) → ends_in_code us ≡ true → is_start us ≡ false → Faultless start (later ++ us)
    → length (bytes_of (later ++ us)) ≤ length (bytes_of us) + bytes_left us → KnowsSame (later ++ us) us
only_bodies start us [] c s f l = grind arith
only_bodies start us (t ∷ later) c s f l =
    let n = length-append (bytes_of (later ++ us)) t.bytes in
    let k : KnowsSame (later ++ us) us = only_bodies start us later c s f.0 (omega (arith, l, n)) in
    let some : 0 < length t.bytes = tile_least start (later ++ us) t.bytes t f.1 in
    let b : IsBody t.shape = grind (arith, body_at) in
    grind arith

-- a code section has begun
some_tile : (ts : List Tile) → ends_in_code ts ≡ true → is_start ts ≡ false
some_tile ts c = grind arith

skipped_at : (p : ParserState) (start : ℕ) (prefix bodies : List ℕ) (s : IsStateAfter p start prefix)
    (k : CompletesCode start prefix bodies) → p.in_code ≡ true → length bodies ≡ p.code_bytes → KnowsSame k.tiles s.tiles
    → IsStateAfter (skipped_state p) start (prefix ++ bodies)
skipped_at p start prefix bodies s k c l same = grind (arith, length-append)

pub skips_section : (p q : ParserState) → p.in_code ≡ true → q ≡ skipped_state p → SkipsSection p q
skips_section p q c e start prefix bodies s l k =
    let w : bytes_of k.tiles ≡ bytes_of s.tiles ++ bodies = cc in
    let (later, z) = longest (bytes_of k.tiles) start k.tiles s.tiles _ bodies
    (stops_at start k.tiles k.faultless (verdict (grammar start k.tiles) []) refl) s.faultless w in
    let n : length (bytes_of (later ++ s.tiles)) ≡ length (bytes_of s.tiles) + length bodies =
    ap (λ (x : List Tile). length (bytes_of x)) (sym z) ∙ (ap (λ (x : List ℕ). length x) w ∙ length-append (bytes_of s.tiles) bodies) in
    let a = s.code_bytes in
    let ends : ends_in_code s.tiles ≡ true = s.in_code c in
    let same : KnowsSame (later ++ s.tiles) s.tiles = only_bodies start s.tiles later ends (some_tile s.tiles ends)
    (rw z at k.faultless) (omega (arith, n, a, l)) in
    grind (arith, skipped_at)

pub in_code_where_skippable : (b : Bool) (code_bytes : ℕ) → is_some (cond b (Some code_bytes) None) ≡ true → b ≡ true
in_code_where_skippable b code_bytes e = grind arith

-- ---- the reading without the bodies that are passed

skipped_at-tiles : (p : ParserState) (start : ℕ) (prefix bodies : List ℕ) (s : IsStateAfter p start prefix)
    (k : CompletesCode start prefix bodies) (c : p.in_code ≡ true) (l : length bodies ≡ p.code_bytes) (same : KnowsSame k.tiles s.tiles)
    → (skipped_at p start prefix bodies s k c l same).tiles ≡ k.tiles
unfolding skipped_at
skipped_at-tiles p start prefix bodies s k c l same = refl

reports_body : (features from to : ℕ) (shape : Shape) → IsBody shape → (window : Window)
    × (tile_report features from to shape ≡ reading.code_entry window)
reports_body features from to (code_entry content) b = (_, refl)
reports_body features from to _ b = absurd b

-- the events of tiles that are bodies
record Bodies (start features : ℕ) (us later : List Tile) : Type 0 where
  events : List Event
  each : All ReportsBody events
  parts : events_of start features (later ++ us) ≡ events_of start features us ++ events

bodies_later : (start features : ℕ) (us later : List Tile) → ends_in_code us ≡ true → is_start us ≡ false → Faultless start (later ++ us)
    → length (bytes_of (later ++ us)) ≤ length (bytes_of us) + bytes_left us → Bodies start features us later
bodies_later start features us [] c s f l = grind (arith, All-nil, append-nil)
bodies_later start features us (t ∷ later) c s f l =
    let n = length-append (bytes_of (later ++ us)) t.bytes in
    let k : KnowsSame (later ++ us) us = only_bodies start us later c s f.0 (omega (arith, l, n)) in
    let some : 0 < length t.bytes = tile_least start (later ++ us) t.bytes t f.1 in
    let b : IsBody t.shape = grind (arith, body_at) in
    let r : Bodies start features us later = bodies_later start features us later c s f.0 (omega (arith, l, n)) in
    let x : Event = event_of features (start + length (bytes_of (later ++ us))) t in
    record {
      events = r.events ++ x ∷ [];
      each = All-append ReportsBody r.events (x ∷ []) r.each (search (All-cons, reports_body, All-nil));
      parts = rw (r.parts, append_assoc) refl;
    }

module _ (start features : ℕ) (prefix bodies : List ℕ) (p : ParserState) (events : List Event) (a : Along start features prefix p [] events)
    (c : p.in_code ≡ true) (l : length bodies ≡ p.code_bytes) (k : CompletesCode start a.prefix bodies) where
  abbrev us : List Tile
  us = a.is_after.tiles

  w : bytes_of k.tiles ≡ bytes_of us ++ bodies
  w = k.whole ∙ ap (λ (x : List ℕ). x ++ bodies) (sym a.is_after.is_prefix)

  left_out_by : (later : List Tile) → k.tiles ≡ later ++ us → LeavesOut start features prefix bodies events (skipped_state p)
  left_out_by later z =
      let n : length (bytes_of (later ++ us)) ≡ length (bytes_of us) + length bodies = rw (← z, w) (length-append (bytes_of us) bodies) in
      let ends : ends_in_code us ≡ true = a.is_after.in_code c in
      let begun = some_tile us ends in
      let f : Faultless start (later ++ us) = rw z at k.faultless in
      let fits : length (bytes_of (later ++ us)) ≤ length (bytes_of us) + bytes_left us = omega (arith, n, a.is_after.code_bytes, l) in
      let same : KnowsSame k.tiles us = rw z (only_bodies start us later ends begun f fits) in
      let r : Bodies start features us later = bodies_later start features us later ends begun f fits in
      let all : events_of start features k.tiles ≡ events_of start features us ++ r.events = ap (events_of start features) z ∙ r.parts in
      let consumed : bytes_of us ++ consumed_by r.events ≡ bytes_of us ++ bodies =
      ap (λ (x : List ℕ). x ++ consumed_by r.events) (sym (tiles_consume start features us))
      ∙ (sym (flat_map-append (λ (x : Event). x.consumed) (events_of start features us) r.events)
      ∙ (ap consumed_by (sym all) ∙ (tiles_consume start features k.tiles ∙ w))) in
      record {
        passed = r.events;
        each = r.each;
        consumed = append_cancel_left (bytes_of us) (consumed_by r.events) bodies consumed;
        is_along = record {
          prefix = a.prefix ++ bodies;
          is_after = skipped_at p start a.prefix bodies a.is_after k c l same;
          whole = ap (λ (x : List ℕ). x ++ bodies) (a.whole ∙ append-nil a.prefix) ∙ sym (append-nil (a.prefix ++ bodies));
          has_features = a.has_features;
          listed = ap (λ (x : List Event). x ++ r.events) a.listed
              ∙ (sym all ∙ ap (events_of start features) (sym (skipped_at-tiles p start a.prefix bodies a.is_after k c l same)));
        };
      }

  left_out : LeavesOut start features prefix bodies events (skipped_state p)
  left_out =
      let (later, z) = longest (bytes_of k.tiles) start k.tiles a.is_after.tiles _ bodies
      (stops_at start k.tiles k.faultless (verdict (grammar start k.tiles) []) refl) a.is_after.faultless w in
      left_out_by later z

pub skipping_leaves_out_bodies : SkippingLeavesOutBodies
skipping_leaves_out_bodies start features prefix bodies p events a some l k =
    left_out start features prefix bodies p events a (search in_code_where_skippable) l
    (rw (a.whole ∙ append-nil a.prefix) at k)
