-- Where a caller is in a stream: at its start, after more bytes arrived, and after a call.
use Rattle.wasm_frames.proofs.Common.{◌≡◌, ℕ, ◌+◌, ◌^◌, ◌<◌, ◌≤◌, Bool, true, false, List, [], ◌∷◌, ◌++◌, length, refl}
use Rattle.wasm_frames.proofs.Common.{sym, ap, subst, subst₂, ◌∙◌, arith, length-append, append_assoc, append-nil, inl, inr, take_at}
use Rattle.wasm_frames.proofs.Common.{drop_at, ◌⊎◌, FaultAt, at_offset, OffsetRange, waiting-asks, verdict-more}
use Rattle.wasm_frames.proofs.Common.{tiles_consume, Grown, grows, Ending, fault, ended, consumed_by, Tile, Verdict, tile, final, Grammar}
use Rattle.wasm_frames.proofs.Common.{verdict, stream_end, Event, tile_report, event_of, events_of, last_event, Reading, bytes_of, grammar}
use Rattle.wasm_frames.proofs.Common.{Waiting, enough, wants, waiting, is_end, Report}
use Rattle.wasm_frames.proofs.Common.{ParserState, initial_state, grammar_of, state_after_tile}
use Rattle.std.proofs.lemmas.List.{nil_from_length}
use Rattle.wasm_frames.specs.Along.{Along, ReadingBegins, BeginsEach, ReadsEach, Came, GoesAlong, IsNoFault, taken_by, is_last}
use Rattle.wasm_frames.specs.Along.{AnswersGoAlong}
use Rattle.wasm_frames.specs.Answer.{Answer, GivesAnswer, asks, refuses, reports}
use Rattle.wasm_frames.specs.GivesNextEvent.{IsUndecided, MayBe}
use Rattle.wasm_grammar.proofs.endings.Waiting.{Asks}
use Rattle.wasm_grammar.proofs.readings.NextEvents.{MoreEvents, events_later}
use Rattle.wasm_grammar.proofs.readings.Readings.{Onward, onward}
use Rattle.wasm_frames.proofs.AnswerBounds.{asks_never, consumes, is_part}
use Rattle.wasm_frames.proofs.AnswerTables.{Answers, AsksFor, AnswersOn, as_table, answer_past}
use Rattle.wasm_frames.proofs.Results.{goes_on}
use Rattle.wasm_frames.proofs.Results.{decided_tile}
use Rattle.wasm_frames.proofs.StateLaws.{grammar_same, nothing_passed, state_goes_on, state_goes_on-tiles}

-- ---- where nothing is read

pub begins : (start features : ℕ) → Along start features [] (initial_state start features) [] []
begins start features = record { prefix = []; is_after = nothing_passed start features; whole = refl; has_features = refl; listed = refl }

-- more bytes arrive
pub pushed : (start features : ℕ) (given : List ℕ) (p : ParserState) (held : List ℕ) (events : List Event) (piece : List ℕ)
    → Along start features given p held events → Along start features (given ++ piece) p (held ++ piece) events
pushed start features given p held events piece a = record {
  prefix = a.prefix;
  is_after = a.is_after;
  whole = ap (λ (x : List ℕ). x ++ piece) a.whole ∙ append_assoc a.prefix held piece;
  has_features = a.has_features;
  listed = a.listed;
}

-- ---- the streams of which the bytes so far may be a prefix

pub whole_begins : (start features : ℕ) (eof : Bool) (given : List ℕ) (events : List Event) → ReadsEach start features eof given events
    → BeginsEach start features eof given events
whole_begins start features eof given events r stream m = grind (arith, begins, append-nil)

may_be : (eof : Bool) (given stream : List ℕ) → MayBe eof given stream → (more : List ℕ) × (stream ≡ given ++ more)
may_be eof given stream m = grind (arith, append-nil)

-- where the parser is, by what it passed
module _ (start features : ℕ) (given : List ℕ) (p : ParserState) (held : List ℕ) (events : List Event)
    (a : Along start features given p held events) where
  -- the stored bytes end where the bytes so far do
  pub ends_at : p.offset + length held ≡ start + length given
  ends_at = grind (arith, length-append)

  verdict_same : (rest : List ℕ) → verdict (grammar_of p) rest ≡ verdict (grammar start a.is_after.tiles) rest
  verdict_same rest = ap (λ (g : Grammar). verdict g rest) (grammar_same p start a.prefix a.is_after)

  -- its reading, where no tile comes next
  pub reading_here : (stream more : List ℕ) (end : Ending) → stream ≡ given ++ more → verdict (grammar_of p) (held ++ more) ≡ final end
      → Reading stream start features (events ++ last_event end ∷ [])
  reading_here stream more end e v = grind (arith, verdict_same, append_assoc)

  begins_with : (stream more : List ℕ) → stream ≡ given ++ more → ReadingBegins start features stream events
  begins_with stream more e =
      let o : Onward stream start a.is_after.tiles = grind (arith, onward, append_assoc) in
      let m : MoreEvents (events_of start features a.is_after.tiles) (events_of start features (o.later ++ a.is_after.tiles)) =
      events_later start features o.later a.is_after.tiles in
      record {
        events = events_of start features o.tiles ++ last_event o.end ∷ [];
        more = m.more ++ last_event o.end ∷ [];
        reading = record { tiles = o.tiles; end = o.end; reads = o.reads; listed = refl };
        begins = grind (arith, append_assoc);
      }

  -- the events so far
  pub events_begin : (eof : Bool) → BeginsEach start features eof given events
  events_begin eof stream m = let (more, e) = may_be eof given stream m in begins_with stream more e

  -- where no tile comes next, nor will
  decides : (eof : Bool) → (eof ≡ true) ⊎ (waiting (grammar_of p) held ≡ enough) → (stream : List ℕ) → MayBe eof given stream
      → (more : List ℕ) × (stream ≡ given ++ more) × (verdict (grammar_of p) (held ++ more) ≡ verdict (grammar_of p) held)
  decides eof d stream m = grind (arith, append-nil, verdict-more)

  pub reads_each : (eof : Bool) (end : Ending) → (eof ≡ true) ⊎ (waiting (grammar_of p) held ≡ enough) → verdict (grammar_of p) held
      ≡ final end → ReadsEach start features eof given (events ++ last_event end ∷ [])
  reads_each eof end d v stream m = let (more, e, same) = decides eof d stream m in reading_here stream more end e (same ∙ v)

  -- a stream that ends where the parser is undecided has one event more
  pub undecided_ends : (eof : Bool) (hint : ℕ) → IsUndecided p eof held hint → (end : Ending)
      × Reading given start features (events ++ last_event end ∷ [])
  undecided_ends eof hint u = by_verdict (verdict (grammar_of p) held) refl
    where
      by_verdict : (v : Verdict) → verdict (grammar_of p) held ≡ v → (end : Ending)
          × Reading given start features (events ++ last_event end ∷ [])
      by_verdict (final end) v = (end, reads_each true end (inl refl) v given refl)
      by_verdict (tile t) v = let d : enough ≡ wants u.1.0 hint = sym (decided_tile p held t v) ∙ u.1.1 in cc

-- ---- a step

-- the same bytes, parted twice
split_same : (xs ys zs ws : List ℕ) → xs ++ ys ≡ zs ++ ws → length xs ≡ length zs → (xs ≡ zs) × (ys ≡ ws)
split_same xs ys zs ws e n = (
  sym (take_at xs ys (length xs) refl) ∙ (grind (arith, take_at)),
  sym (drop_at xs ys (length xs) refl) ∙ (grind (arith, drop_at)),
)

module _ (start features : ℕ) (given : List ℕ) (p : ParserState) (held : List ℕ) (events : List Event)
    (a : Along start features given p held events) where
  pub offset_is : p.offset ≡ start + length (bytes_of a.is_after.tiles)
  offset_is = a.is_after.offset ∙ ap (λ (x : List ℕ). start + length x) (sym a.is_after.is_prefix)

  abbrev pub event_here : Tile → Event
  event_here t = event_of features (start + length (bytes_of a.is_after.tiles)) t

  -- the parser after the tile that comes next
  pub along_tile : (t : Tile) (bytes rest : List ℕ) (new : ParserState) → verdict (grammar_of p) held ≡ tile t
      → length bytes ≡ length t.bytes → held ≡ bytes ++ rest → new ≡ state_after_tile p t
      → Along start features given new rest (events ++ event_here t ∷ []) × (t.bytes ≡ bytes) × (0 < length bytes)
  along_tile t bytes rest new v n w s =
      let v' : verdict (grammar start a.is_after.tiles) held ≡ tile t = sym (verdict_same start features given p held events a held) ∙ v in
      let g : Grown start a.is_after.tiles held t = grows start a.is_after.tiles held t a.is_after.faultless v' in
      let (b, r) = split_same bytes rest t.bytes g.rest (sym w ∙ g.split) n in
      let some : 0 < length t.bytes = g.some in
      let after : Along start features given (state_after_tile p t) rest (events ++ event_here t ∷ []) = record {
        prefix = a.prefix ++ t.bytes;
        is_after = state_goes_on p start a.prefix a.is_after held t v;
        whole = grind (arith, append_assoc);
        has_features = a.has_features;
        listed = grind (arith, state_goes_on-tiles);
      } in (
        subst (λ (x : ParserState). Along start features given x rest (events ++ event_here t ∷ [])) (sym s) after,
        sym b,
        omega (arith, n, some),
      )

  tile_came : (eof : Bool) (t : Tile) (bytes rest : List ℕ) (report : Report) (new : ParserState) → verdict (grammar_of p) held ≡ tile t
      → length bytes ≡ length t.bytes → held ≡ bytes ++ rest → new ≡ state_after_tile p t
      → report ≡ tile_report p.features p.offset (p.offset + length t.bytes) t.shape
      → Came start features eof given events bytes report new rest
  tile_came eof t bytes rest report new v n w s i =
      let z = along_tile t bytes rest new v n w s in
      let more : is_end report ≡ false = ap is_end i ∙ goes_on p.features p.offset (p.offset + length t.bytes) t.shape in
      record {
        event = event_here t;
        is_report = subst₂ (λ (f o : ℕ). report ≡ tile_report f o (o + length t.bytes) t.shape) a.has_features offset_is i;
        consumed = z.1;
        begins = events_begin start features given new rest (events ++ event_here t ∷ []) z.0 eof;
        goes_on = λ e. (z.0, z.2);
        ends = λ e. cc;
        last = λ e. cc;
      }

  end_came : (eof : Bool) (offset : ℕ) (bytes rest : List ℕ) (report : Report) (new : ParserState) → (eof ≡ true)
      ⊎ (waiting (grammar_of p) held ≡ enough) → verdict (grammar_of p) held ≡ final (ended offset) → length bytes ≡ 0
      → report ≡ stream_end (ended offset) → Came start features eof given events bytes report new rest
  end_came eof offset bytes rest report new d v n i =
      let r = reads_each start features given p held events a eof (ended offset) d v in
      record {
        event = last_event (ended offset);
        is_report = i;
        consumed = sym (nil_from_length bytes n);
        begins = whole_begins start features eof given (events ++ last_event (ended offset) ∷ []) r;
        goes_on = λ e. let over = ap is_end i in cc;
        ends = λ e. r;
        last = λ e. (offset, refl);
      }

  -- where nothing is passed
  along_same : (new : ParserState) (rest : List ℕ) → new ≡ p → held ≡ rest → Along start features given new rest events
  along_same new rest s w = subst₂ (λ (x : ParserState) (y : List ℕ). Along start features given x y events) (sym s) w a

  answered : (eof : Bool) (x : Answer) (bytes : List ℕ) (new : ParserState) (rest : List ℕ) (v : Verdict)
      → (eof ≡ true) ⊎ (waiting (grammar_of p) held ≡ enough) → verdict (grammar_of p) held ≡ v → Answers p v x new → held ≡ bytes ++ rest
      → length bytes ≡ taken_by x → GoesAlong start features eof given events x bytes new rest
  answered eof (asks hint) bytes new rest v d e r w n = absurd (asks_never p new hint v r)
  answered eof (reports report consumed) bytes new rest (tile t) d e r w n = grind (arith, tile_came)
  answered eof (reports report consumed) bytes new rest (final (ended offset)) d e r w n = end_came _ _ _ _ _ _ d e (n ∙ r.0) r.1
  answered eof (refuses g) bytes new rest (final (fault f)) d e r w n = (
    reads_each start features given p held events a eof (fault g) d (e ∙ ap (λ (y : FaultAt). final (fault y)) (sym r.0)),
    along_same new rest r.1 (w ∙ ap (λ (y : List ℕ). y ++ rest) (nil_from_length bytes n)),
  )
  answered eof _ bytes new rest _ d e r w n = absurd r

  asked : (need hint : ℕ) (x : Answer) (bytes : List ℕ) (new : ParserState) (rest : List ℕ) → waiting (grammar_of p) held
      ≡ wants need hint → AsksFor hint p x new → held ≡ bytes ++ rest → length bytes ≡ taken_by x
      → GoesAlong start features false given events x bytes new rest
  asked need hint (asks some) bytes new rest e r w n =
      let same : held ≡ rest = w ∙ ap (λ (y : List ℕ). y ++ rest) (nil_from_length bytes n) in
      ((refl, (need, rw (r.1, ← same, r.0) e)), along_same new rest r.1 same)
  asked need hint _ bytes new rest e r w n = absurd r

  answered_on : (eof : Bool) (x : Answer) (bytes : List ℕ) (new : ParserState) (rest : List ℕ) (u : Waiting)
      → waiting (grammar_of p) held ≡ u → AnswersOn eof u p (verdict (grammar_of p) held) x new → held ≡ bytes ++ rest
      → length bytes ≡ taken_by x → GoesAlong start features eof given events x bytes new rest
  answered_on true x bytes new rest u e r w n = answered true x bytes new rest (verdict (grammar_of p) held) (inl refl) refl r w n
  answered_on false x bytes new rest enough e r w n = answered false x bytes new rest (verdict (grammar_of p) held) (inr e) refl r w n
  answered_on false x bytes new rest (wants need hint) e r w n = asked need hint x bytes new rest e r w n

  pub goes_along : (eof : Bool) (x : Answer) (bytes : List ℕ) (new : ParserState) (rest : List ℕ)
      → start + length given < 2 ^ 64 → GivesAnswer p eof held x new → held ≡ bytes ++ rest → length bytes ≡ taken_by x
      → GoesAlong start features eof given events x bytes new rest
  goes_along eof x bytes new rest l r w n =
      let o = ends_at start features given p held events a in
      answered_on eof x bytes new rest _ refl ((as_table p new eof held x r).within (omega (arith, o, l))) w n

-- ---- the same result

again : (p new other : ParserState) (eof : Bool) (held : List ℕ) (one two : Answer) → is_last one ≡ true
    → GivesAnswer p eof held one new → GivesAnswer new eof held two other → one ≡ two
again p new other eof held (asks hint) two l a b = cc
again p new other eof held (reports report consumed) two l a b = cc
again p new other eof held (refuses f) two l a b = cc

-- ---- what callers lean on

consumed : (start features : ℕ) (given : List ℕ) (p : ParserState) (held : List ℕ) (events : List Event)
    → Along start features given p held events → given ≡ consumed_by events ++ held
consumed start features given p held events a = grind (arith, tiles_consume)

module _ (p new : ParserState) (eof : Bool) (held : List ℕ) where
  below : (answer : Answer) → GivesAnswer p eof held answer new → IsNoFault answer → p.offset + length held < 2 ^ 64
  below answer a n = grind (arith, answer_past)

  undecided : (hint : ℕ) → GivesAnswer p eof held (asks hint) new → IsUndecided p eof held hint
  undecided hint a = grind arith

past_the_top : (p new : ParserState) (eof : Bool) (held : List ℕ) (answer : Answer) → GivesAnswer p eof held answer new
    → 2 ^ 64 ≤ p.offset + length held → answer ≡ refuses (at_offset OffsetRange p.offset)
past_the_top p new eof held answer a l = a.answer ∙ answer_past p eof held l

bounded : (p : ParserState) (held : List ℕ) (need hint : ℕ) → waiting (grammar_of p) held ≡ wants need hint → length held < need
bounded p held need hint e = let a : Asks held need hint = waiting-asks (grammar_of p) held need hint e in a.above

pub answers_go_along : AnswersGoAlong
answers_go_along = record {
  begins = begins;
  more = pushed;
  ends = ends_at;
  first = λ start features given p held events eof a. events_begin start features given p held events a eof;
  answers = search goes_along;
  cut_short = λ start features given p held events eof hint a u. undecided_ends start features given p held events a eof hint u;
  consumed = consumed;
  consumes = consumes;
  takes_some = λ p new eof held consumed report r goes.
      grind (arith, consumes p new eof held (reports report consumed) r);
  is_part = is_part;
  below = below;
  asks = undecided;
  bounded = bounded;
  past_the_top = past_the_top;
  becomes = λ p new eof held answer a. a.state;
  once = λ p new other eof held one two a b. a.answer ∙ sym b.answer;
  again = again;
}
