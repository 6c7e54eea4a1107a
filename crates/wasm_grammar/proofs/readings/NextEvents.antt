-- The event that comes next in a reading.
use Rattle.wasm_grammar.proofs.Common.{arith, ◌≡◌, ◌⊎◌, inl, inr, List, [], ◌∷◌, ◌++◌, refl, ap, ℕ, ◌+◌, length, ◌<◌, sym, ◌∙◌, append-nil}
use Rattle.wasm_grammar.proofs.Common.{append_assoc, length-append, common_steps, append_cancel_left, Ending, consumed_by, Tile, tile}
use Rattle.wasm_grammar.proofs.Common.{final, Verdict, verdict, NextEvent, Reads, events_of, Event, last_event, Reading, event_of, bytes_of}
use Rattle.wasm_grammar.proofs.Common.{grammar, Faultless}
use Rattle.wasm_grammar.proofs.parts.Guarded.{tile_least}
use Rattle.wasm_grammar.proofs.readings.EndToEnd.{tiles_consume}
use Rattle.wasm_grammar.proofs.readings.Longest.{longest}
use Rattle.wasm_grammar.proofs.readings.Readings.{Grown, grows, reads_same}

-- ---- events by what they consumed

-- Each of these events consumed some bytes.
abbrev pub EachConsumes : List Event → Type 0
EachConsumes [] = Unit {0}
EachConsumes (e ∷ events) = (0 < length e.consumed) × EachConsumes events

each_more : (xs : List Event) (e : Event) → EachConsumes xs → 0 < length e.consumed → EachConsumes (xs ++ e ∷ [])
each_more [] e h l = (l, tt)
each_more (x ∷ xs) e h l = (h.0, each_more xs e h.1 l)

pub tiles_each : (start features : ℕ) (ts : List Tile) → Faultless start ts → EachConsumes (events_of start features ts)
tiles_each start features [] f = tt
tiles_each start features (t ∷ ts) f = search (each_more, tile_least, tiles_each start features ts f.0)

same_head : (x y : Event) (xs ys : List Event) → x ∷ xs ≡ y ∷ ys → (x ≡ y) × (xs ≡ ys)
same_head x y xs ys e = (cc, cc)

-- Two events of one list, after events that consumed the same bytes, are one; the second consumed some itself, or is
-- the last.
same_place : (xs before : List Event) (x e : Event) (after later : List Event) → EachConsumes xs → (0 < length x.consumed) ⊎ (after ≡ [])
    → before ++ e ∷ later ≡ xs ++ x ∷ after → consumed_by before ≡ consumed_by xs → e ≡ x
same_place [] [] x e after later h l w c = (same_head e x later after w).0
same_place [] (b ∷ before) x e after later h (inl l) w c =
    let n : length (b.consumed ++ consumed_by before) ≡ 0 = rw c in
    grind (arith, length-append)
same_place [] (b ∷ before) x e after later h (inr l) w c =
    let n : length (before ++ e ∷ later) ≡ 0 = rw ((same_head b x (before ++ e ∷ later) after w).1 ∙ l) in
    absurd (omega (arith, length-append before (e ∷ later)))
same_place (y ∷ xs) [] x e after later h l w c =
    let n : 0 ≡ length (y.consumed ++ consumed_by xs) = ap (λ (z : List ℕ). length z) c in
    absurd (omega (arith, length-append y.consumed (consumed_by xs)))
same_place (y ∷ xs) (b ∷ before) x e after later h l w c =
    let d : consumed_by before ≡ consumed_by xs = grind (arith, append_cancel_left) in
    same_place xs before x e after later h.1 l (same_head b y (before ++ e ∷ later) (xs ++ x ∷ after) w).1 d

-- ---- the events of longer tilings

pub record MoreEvents (first all : List Event) : Type 0 where
  pub more : List Event
  pub parts : all ≡ first ++ more

pub events_later : (start features : ℕ) (later ts : List Tile) → MoreEvents (events_of start features ts)
    (events_of start features (later ++ ts))
events_later start features [] ts = record { more = []; parts = sym (append-nil (events_of start features ts)) }
events_later start features (t ∷ later) ts = grind (arith, append_assoc, events_later start features later ts)

-- ---- the next event

-- what comes after these tiles, by what is there
abbrev pub event_at : (start features : ℕ) → List Tile → Verdict → Event
event_at start features ts (tile t) = event_of features (start + length (bytes_of ts)) t
event_at start features ts (final end) = last_event end

-- a tile
tile_comes : (start features : ℕ) (ts : List Tile) (rest : List ℕ) (t : Tile) → Faultless start ts → verdict (grammar start ts) rest
    ≡ tile t → (before later : List Event) (e : Event) → Reading (bytes_of ts ++ rest) start features (before ++ e ∷ later)
    → consumed_by before ≡ bytes_of ts → e ≡ event_of features (start + length (bytes_of ts)) t
tile_comes start features ts rest t f v before later e r c =
    let g : Grown start ts rest t = grows start ts rest t f v in
    let l = longest (bytes_of ts ++ rest) start r.tiles (t ∷ ts) r.end g.rest r.reads g.faultless (grind (arith, append_assoc)) in
    let m : MoreEvents (events_of start features (t ∷ ts)) (events_of start features (l.0 ++ t ∷ ts)) = search events_later in
    same_place (events_of start features ts) before (event_of features (start + length (bytes_of ts)) t) e (m.more ++ last_event r.end ∷ [])
    later (tiles_each start features ts f) (inl g.some) (grind (arith, append_assoc)) (c ∙ sym (tiles_consume start features ts))

-- the last event
end_comes : (start features : ℕ) (ts : List Tile) (rest : List ℕ) (end : Ending) → Faultless start ts → verdict (grammar start ts) rest
    ≡ final end → (before later : List Event) (e : Event) → Reading (bytes_of ts ++ rest) start features (before ++ e ∷ later)
    → consumed_by before ≡ bytes_of ts → e ≡ last_event end
end_comes start features ts rest end f v before later e r c =
    let here : Reads (bytes_of ts ++ rest) start ts end = record { rest = rest; whole = refl; faultless = f; stops = v } in
    let z = reads_same (bytes_of ts ++ rest) start r.tiles ts r.end end r.reads here in
    grind (arith, common_steps, same_place, tiles_each, tiles_consume)

pub comes_next : (start features : ℕ) (ts : List Tile) (rest : List ℕ) (v : Verdict) → Faultless start ts → verdict (grammar start ts) rest
    ≡ v → (before later : List Event) (e : Event) → Reading (bytes_of ts ++ rest) start features (before ++ e ∷ later)
    → consumed_by before ≡ bytes_of ts → e ≡ event_at start features ts v
comes_next start features ts rest (tile t) f v before later e r c = tile_comes start features ts rest t f v before later e r c
comes_next start features ts rest (final end) f v before later e r c = end_comes start features ts rest end f v before later e r c

-- ---- there is a next event

pub next_there : (start features : ℕ) (ts : List Tile) (rest : List ℕ) (events : List Event) → Faultless start ts
    → Reading (bytes_of ts ++ rest) start features events → NextEvent events (bytes_of ts)
next_there start features ts rest events f r =
    let l = longest (bytes_of ts ++ rest) start r.tiles ts r.end rest r.reads f refl in
    let m : MoreEvents (events_of start features ts) (events_of start features (l.0 ++ ts)) = events_later start features l.0 ts in
    at m.more (r.listed ∙ (ap (λ (y : List Tile). events_of start features y ++ last_event r.end ∷ []) l.1
    ∙ (ap (λ (y : List Event). y ++ last_event r.end ∷ []) m.parts
    ∙ append_assoc (events_of start features ts) m.more (last_event r.end ∷ []))))
  where
    at : (more : List Event) → events ≡ events_of start features ts ++ (more ++ last_event r.end ∷ []) → NextEvent events (bytes_of ts)
    at [] e = record {
      before = events_of start features ts;
      event = last_event r.end;
      later = [];
      whole = e;
      consumed = tiles_consume start features ts;
    }
    at (x ∷ more) e = record {
      before = events_of start features ts;
      event = x;
      later = more ++ last_event r.end ∷ [];
      whole = e;
      consumed = tiles_consume start features ts;
    }
