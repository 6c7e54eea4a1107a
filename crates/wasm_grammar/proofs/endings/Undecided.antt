-- What comes next in streams that begin with the same bytes.
use Rattle.wasm_grammar.proofs.Common.{arith, ◌≡◌, List, [], ◌∷◌, ◌++◌, refl, ap, ℕ, ◌+◌, length, ◌<◌, sym, ◌∙◌, append-nil, append_assoc}
use Rattle.wasm_grammar.proofs.Common.{subst, length-append, ◌^◌, ◌≢◌, All, Tile, tile, Verdict, verdict, NextEvent, events_of, Event}
use Rattle.wasm_grammar.proofs.Common.{last_event, Reading, grammar, deciding_ending, wants, waiting}
use Rattle.std.proofs.lemmas.List.Elements.{All-append}
use Rattle.wasm_grammar.specs.Reading.{Stream}
use Rattle.wasm_grammar.specs.Undecided.{ComesNext, IsTiledBy, OneComesNext, EnoughIsDecided, ShortIsUndecided, TwoStreams}
use Rattle.wasm_grammar.proofs.endings.Deciding.{differs, Differs-grammar}
use Rattle.wasm_grammar.proofs.endings.Sizes.{IsSmall, ending_is_small}
use Rattle.wasm_grammar.proofs.endings.Waiting.{tile_decided}
use Rattle.wasm_grammar.proofs.parts.Guarded.{Guarded-grammar, tile_least}
use Rattle.wasm_grammar.proofs.parts.Verdicts.{verdict-more}
use Rattle.wasm_grammar.proofs.readings.NextEvents.{event_at, comes_next, next_there}
use Rattle.wasm_grammar.proofs.readings.Readings.{Onward, reads_all}

-- ---- what comes next is what is there

what_comes : (start features : ℕ) (tiles : List Tile) (front rest : List ℕ) (event : Event) → IsTiledBy start front tiles
    → ComesNext start features front rest event → event ≡ event_at start features tiles (verdict (grammar start tiles) rest)
what_comes start features tiles front rest event t n =
    sym n.is ∙ comes_next start features tiles rest (verdict (grammar start tiles) rest) t.0 refl n.next.before n.next.later n.next.event
    (grind arith) (n.next.consumed ∙ sym t.1)

-- there is something
something_comes : (start features : ℕ) (tiles : List Tile) (front rest : List ℕ) → IsTiledBy start front tiles → (event : Event)
    × ComesNext start features front rest event
something_comes start features tiles front rest t =
    let o : Onward (front ++ rest) start [] = reads_all (front ++ rest) start in
    let read : Reading (front ++ rest) start features (events_of start features o.tiles ++ last_event o.end ∷ []) = search in
    let n : NextEvent (events_of start features o.tiles ++ last_event o.end ∷ []) front =
    subst (NextEvent (events_of start features o.tiles ++ last_event o.end ∷ [])) t.1
    (next_there start features tiles rest _ t.0 (rw t.1 read)) in
    (n.event, record { events = events_of start features o.tiles ++ last_event o.end ∷ []; reading = read; next = n; is = refl })

pub one_comes : (start : ℕ) (front : List ℕ) → OneComesNext start front
one_comes start front tiles t features rest = (
  something_comes start features tiles front rest t,
  λ one other x y. what_comes start features tiles front rest one t x ∙ sym (search what_comes),
)

-- ---- bytes that suffice

pub enough_is_decided : (start : ℕ) (front came : List ℕ) → EnoughIsDecided start front came
enough_is_decided start front came tiles t w one other features x y a b =
    let v : verdict (grammar start tiles) (came ++ one) ≡ verdict (grammar start tiles) (came ++ other) = search verdict-more in
    what_comes start features tiles front (came ++ one) x t a ∙ (ap (event_at start features tiles) v
    ∙ sym (search what_comes))

-- ---- bytes that don't

-- where a stream ends, another verdict is another event
events_differ : (start features : ℕ) (tiles : List Tile) (v w : Verdict) → ((t : Tile) → v ≢ tile t)
    → ((t : Tile) → w ≡ tile t → 0 < length t.bytes) → v ≢ w → event_at start features tiles v ≢ event_at start features tiles w
events_differ start features tiles v w e f g h = grind arith

no_tile : (start : ℕ) (tiles : List Tile) (came : List ℕ) (need hint : ℕ) → waiting (grammar start tiles) came ≡ wants need hint
    → (t : Tile) → verdict (grammar start tiles) came ≢ tile t
no_tile start tiles came need hint w t v = grind (arith, tile_decided, Guarded-grammar)

pub other_comes : (start features : ℕ) (tiles : List Tile) (front came : List ℕ) (need hint : ℕ) → IsTiledBy start front tiles
    → waiting (grammar start tiles) came ≡ wants need hint → (x y : Event)
    → ComesNext start features front came x → ComesNext start features front (came ++ deciding_ending (grammar start tiles) came) y → x ≢ y
other_comes start features tiles front came need hint t w x y a b z =
    let same : event_at start features tiles (verdict (grammar start tiles) came)
    ≡ event_at start features tiles (verdict (grammar start tiles) (came ++ deciding_ending (grammar start tiles) came)) =
    sym (search what_comes) ∙ (z
    ∙ what_comes start features tiles front (came ++ deciding_ending (grammar start tiles) came) y t b) in
    search (events_differ, no_tile, tile_least, differs, Differs-grammar)

-- if the offsets suffice, the suffix makes another stream
goes_on : (start : ℕ) (front came more : List ℕ) → IsSmall more → Stream (front ++ came) start
    → start + length (front ++ came) + 2 ^ 33 < 2 ^ 64 → Stream (front ++ (came ++ more)) start
goes_on start front came more s t l =
    let b = s.bound in
    let n : length (front ++ (came ++ more)) ≡ length (front ++ came) + length more =
    ap (λ (x : List ℕ). length x) (sym (append_assoc front came more)) ∙ length-append (front ++ came) more in
    record {
      each = subst (All (λ b. b < 256)) (append_assoc front came more) (search All-append);
      fits = omega (arith, n, b, l);
    }

pub short_is_undecided : (start : ℕ) (front came : List ℕ) → ShortIsUndecided start front came
short_is_undecided start front came tiles t need hint w = search (other_comes, goes_on, ending_is_small)

-- ---- what a parser asks for

-- two streams, where bytes don't suffice
pub two_streams : (start features : ℕ) (tiles : List Tile) (front came : List ℕ) (need hint : ℕ) → IsTiledBy start front tiles
    → waiting (grammar start tiles) came ≡ wants need hint → Stream (front ++ came) start → start + length (front ++ came) + 2 ^ 33 < 2 ^ 64
    → TwoStreams start features front came
two_streams start features tiles front came need hint t w s l =
    let (x, a) = something_comes start features tiles front came t in
    let (y, b) = something_comes start features tiles front (came ++ deciding_ending (grammar start tiles) came) t in
    record {
      one = [];
      other = deciding_ending (grammar start tiles) came;
      is_stream = rw (append-nil came) s;
      other_is_stream = search (goes_on, ending_is_small);
      event = x;
      other_event = y;
      comes = rw (append-nil came) a;
      other_comes = b;
      differ = search other_comes;
    }
