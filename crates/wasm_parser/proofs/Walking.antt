-- What a walk of a whole stream yields.
use Rattle.wasm_parser.proofs.Common.{◌≡◌, ℕ, ◌+◌, ◌^◌, ◌<◌, Bool, true, false, List, [], ◌∷◌, ◌++◌, length, Result, Ok, Err, refl, sym, ap}
use Rattle.wasm_parser.proofs.Common.{subst, ◌∙◌, arith, length-append, append_assoc, drop, Some, None, Option, drop_at, All-nil, All-cons}
use Rattle.wasm_parser.proofs.Common.{All, fault_at, Error, Grown, grows, Ending, fault, ended, Tile, Verdict, tile, final, verdict}
use Rattle.wasm_parser.proofs.Common.{stream_end, Event, event_of, events_of, last_event, Reading, Stream, Report, bytes_of, grammar}
use Rattle.wasm_parser.proofs.Common.{report_of, is_end, ParserState, initial_state, grammar_of, IsStateAfter, state_after_tile}
use Rattle.wasm_parser.proofs.Common.{Payload}
use Rattle.std.specs.Iterator.{Yields}
use Rattle.std.specs.List.{cons_option}
use Rattle.std.specs.Prelude.{◌↔◌, map, filter_map}
use Rattle.std.specs.declared.ops.Range.{Range}
use Rattle.wasm_grammar.specs.Sections.{section_of, sections_of, TiledBySections}
use Rattle.wasm_parser.specs.ParseAll.{HoldsItems, Walk, walk_over, consumed_between, NextPayload, sections_given, given_report}
use Rattle.wasm_parser.specs.ParseAll.{event_report, EndsAt, GivesReading, WalksWhole}
use Rattle.wasm_grammar.proofs.accepted.Accepting.{accepted_ends}
use Rattle.wasm_grammar.proofs.frames.SectionPlaces.{sections_tile}
use Rattle.wasm_grammar.proofs.readings.Readings.{reads_same, reading_same}
use Rattle.wasm_frames.specs.Answer.{refuses, reports}
use Rattle.wasm_frames.proofs.AnswerTables.{Answers, as_table}
use Rattle.wasm_frames.proofs.Results.{goes_on}
use Rattle.wasm_frames.proofs.StateLaws.{grammar_same, nothing_passed, state_goes_on, state_goes_on-tiles}

-- ---- one step

-- a finished walk yields nothing
over_gives_nothing : (s t : Walk) (given : List (Result Payload Error)) → s.ended ≡ true → Yields NextPayload s given t → given ≡ []
over_gives_nothing s t [] e run = refl
over_gives_nothing s t (x ∷ given) e run = absurd (let z = (run.1.over e).0 in cc)

-- a reading whose events after these tiles have these reports
record ReadsOn (start features : ℕ) (stream : List ℕ) (tiles : List Tile) (report : List Report) : Type 0 where
  events : List Event
  reading : Reading stream start features (events_of start features tiles ++ events)
  gives : report ≡ map event_report events

-- the walk is after these tiles of a stream
record Walked (start features : ℕ) (stream : List ℕ) (s : Walk) (tiles : List Tile) : Type 0 where
  prefix : List ℕ
  is_after : IsStateAfter s.state start prefix
  same : is_after.tiles ≡ tiles
  whole : stream ≡ prefix ++ s.bytes
  takes : s.state.features ≡ features
  fits : start + length stream < 2 ^ 64

-- what comes next there
here : (start features : ℕ) (stream : List ℕ) (s : Walk) (tiles : List Tile) → Walked start features stream s tiles
    → verdict (grammar_of s.state) s.bytes ≡ verdict (grammar start tiles) s.bytes
here start features stream s tiles w = rw (grammar_same s.state start w.prefix w.is_after ∙ ap (grammar start) w.same)

module _ (start features : ℕ) (stream : List ℕ) where
  within : (s : Walk) (tiles : List Tile) → Walked start features stream s tiles → s.state.offset + length s.bytes < 2 ^ 64
  within s tiles w = grind (arith, length-append)

  -- a reading that stops here
  stops_here : (s : Walk) (tiles : List Tile) (w : Walked start features stream s tiles) (end : Ending) (x : Report)
      → verdict (grammar_of s.state) s.bytes ≡ final end → x ≡ stream_end end → ReadsOn start features stream tiles (x ∷ [])
  stops_here s tiles w end x v t = record {
    events = last_event end ∷ [];
    reading = record {
      tiles = tiles;
      end = end;
      reads = record {
        rest = s.bytes;
        whole = cc;
        faultless = grind arith;
        stops = sym (here start features stream s tiles w) ∙ v;
      };
      listed = refl;
    };
    gives = rw t;
  }

  -- a tile more
  goes_further : (tiles : List Tile) (t : Tile) (x : Report) (others : List Report)
      → x ≡ event_report (event_of features (start + length (bytes_of tiles)) t) → ReadsOn start features stream (t ∷ tiles) others
      → ReadsOn start features stream tiles (x ∷ others)
  goes_further tiles t x others e r = grind (arith, append_assoc)

  -- the walk after a tile
  steps_on : (s m : Walk) (tiles : List Tile) (w : Walked start features stream s tiles) (t : Tile) (consumed : ℕ)
      → verdict (grammar_of s.state) s.bytes ≡ tile t → consumed ≡ length t.bytes → m.state ≡ state_after_tile s.state t
      → m.bytes ≡ drop consumed s.bytes → Walked start features stream m (t ∷ tiles)
  steps_on s m tiles w t consumed v n p b =
      let v' : verdict (grammar start w.is_after.tiles) s.bytes ≡ tile t =
      rw (grammar_same s.state start w.prefix w.is_after) at v in
      let g : Grown start w.is_after.tiles s.bytes t = search grows in
      let d : m.bytes ≡ g.rest = grind (arith, drop_at) in
      let on : Walked start features stream (record { state = state_after_tile s.state t; bytes = g.rest; ended = m.ended }) (t ∷ tiles) =
      record {
        prefix = w.prefix ++ t.bytes;
        is_after = search state_goes_on;
        same = search state_goes_on-tiles;
        whole = w.whole ∙ (ap (λ (y : List ℕ). w.prefix ++ y) g.split ∙ sym (append_assoc w.prefix t.bytes g.rest));
        takes = w.takes;
        fits = w.fits;
      } in
      grind arith

  -- ---- the whole walk

  -- what an unfinished walk yields
  walks : (given : List (Result Payload Error)) (s t u : Walk) (tiles : List Tile) → Walked start features stream s tiles → s.ended ≡ false
      → Yields NextPayload s given t → NextPayload t None u → ReadsOn start features stream tiles (map given_report given)
  walks [] s t u tiles w going run end = grind arith
  walks (Err e ∷ given) s t u tiles w going run end =
      let step = run.1.going going in
      let none : given ≡ [] = over_gives_nothing run.0 t given step.2 run.2 in
      let r : ReadsOn start features stream tiles (stream_end (fault (fault_at e)) ∷ []) =
      refused (verdict (grammar_of s.state) s.bytes) refl
      ((as_table s.state run.0.state true s.bytes (refuses (fault_at e)) step.0.gives).within (within s tiles w)) in
      subst (λ (y : List (Result Payload Error)). ReadsOn start features stream tiles
      (stream_end (fault (fault_at e)) ∷ map given_report y))
      (sym none) r
    where
      refused : (v : Verdict) → verdict (grammar_of s.state) s.bytes ≡ v → Answers s.state v (refuses (fault_at e)) run.0.state
          → ReadsOn start features stream tiles (stream_end (fault (fault_at e)) ∷ [])
      refused (tile x) q a = absurd a
      refused (final (fault f)) q a = stops_here s tiles w (fault f) (stream_end (fault (fault_at e))) q
          (rw a.0)
      refused (final (ended o)) q a = absurd a
  walks (Ok payload ∷ given) s t u tiles w going run end =
      answered (λ ts on still. walks given run.0 t u ts on still run.2 end) (verdict (grammar_of s.state) s.bytes) refl
      ((as_table s.state run.0.state true s.bytes (reports (report_of payload) (consumed_between s run.0))
      (run.1.going going).0.gives).within (within s tiles w))
    where
      answered : ((ts : List Tile) → Walked start features stream run.0 ts → run.0.ended ≡ false
          → ReadsOn start features stream ts (map given_report given)) → (v : Verdict) → verdict (grammar_of s.state) s.bytes ≡ v
          → Answers s.state v (reports (report_of payload) (consumed_between s run.0)) run.0.state
          → ReadsOn start features stream tiles (report_of payload ∷ map given_report given)
      answered next (tile x) q a =
          let on : Walked start features stream run.0 (x ∷ tiles) =
          grind (arith, steps_on) in
          let still : run.0.ended ≡ false = grind (arith, goes_on) in
          goes_further tiles x (report_of payload) (map given_report given)
          (cc) (next (x ∷ tiles) on still)
      answered next (final (fault f)) q a = absurd a
      answered next (final (ended o)) q a =
          let over : run.0.ended ≡ true = (run.1.going going).2 ∙ ap is_end a.1 in
          let none : given ≡ [] = over_gives_nothing run.0 t given over run.2 in
          grind (arith, stops_here)

-- a walk that has not begun
begins : (start features : ℕ) (bytes : List ℕ) → start + length bytes < 2 ^ 64
    → Walked start features bytes (walk_over (initial_state start features) bytes) []
begins start features bytes l = record {
  prefix = [];
  is_after = nothing_passed start features;
  same = refl;
  whole = refl;
  takes = refl;
  fits = l;
}

-- ---- how it ends

ends_append : (o : ℕ) (xs : List Report) (x : Report) → EndsAt o (xs ++ x ∷ []) ↔ (x ≡ stream_end (ended o))
ends_append o (y ∷ (z ∷ zs)) x = ends_append o (z ∷ zs) x
ends_append o _ x = (λ h. h, λ h. h)

map_append : (xs ys : List Event) → map event_report (xs ++ ys) ≡ map event_report xs ++ map event_report ys
map_append [] ys = refl
map_append (x ∷ xs) ys = ap (λ (l : List Report). x.report ∷ l) (map_append xs ys)

-- what `filter_map` keeps of a mapped list
mapped : {X Y Z : Type 0} (f : X → Y) (h : Y → Option Z) (xs : List X) → filter_map (λ x. h (f x)) xs ≡ filter_map h (map f xs)
mapped f h [] = refl
mapped f h (x ∷ xs) = ap (cons_option (h (f x))) (mapped f h xs)

-- sections by what is reported of them
same_sections : (given : List (Result Payload Error)) (events : List Event) → map given_report given ≡ map event_report events
    → sections_of events ≡ sections_given given
same_sections given events e = mapped event_report section_of events
    ∙ (ap (filter_map section_of) (sym e) ∙ sym (mapped given_report section_of given))

-- each payload of a walk holds its items
holds_one : (b : Bool) (s t : Walk) (x : Result Payload Error) → s.ended ≡ b → NextPayload s (Some x) t → HoldsItems x
holds_one b s t x e n = grind arith

holds_all : (given : List (Result Payload Error)) (s t : Walk) → Yields NextPayload s given t → All HoldsItems given
holds_all [] s t run = All-nil HoldsItems
holds_all (x ∷ given) s t run = All-cons HoldsItems x given (holds_one s.ended s run.0 x refl run.1) (holds_all given run.0 t run.2)

gives_reading : (start features : ℕ) (bytes : List ℕ) → Stream bytes start
    → GivesReading start features bytes (walk_over (initial_state start features) bytes)
gives_reading start features bytes stream = record {
  reading = λ given run events r.
      let w : ReadsOn start features bytes [] (map given_report given) = search (walks, begins) in
      w.gives ∙ ap (map event_report) (search reading_same);
  items = λ given run. holds_all given (walk_over (initial_state start features) bytes) run.1.0 run.1.1;
  accepted = λ given run.
      let w : ReadsOn start features bytes [] (map given_report given) = search (walks, begins) in
      let a = accepted_ends bytes start stream in
      let l : map given_report given ≡ map event_report (events_of start features w.reading.tiles) ++ stream_end w.reading.end ∷ [] =
      grind (arith, map_append) in
      let reported_as = map event_report (events_of start features w.reading.tiles) in
      let e = ends_append (start + length bytes) reported_as (stream_end w.reading.end) in (
        λ h.
            let (ts, reads) = a.0 h in
            let same : w.reading.end ≡ ended (start + length bytes) =
            (reads_same bytes start w.reading.tiles ts w.reading.end (ended (start + length bytes)) w.reading.reads reads).1 in
            subst (EndsAt (start + length bytes)) (sym l) (e.1 (ap stream_end same)),
        λ h.
            let same : w.reading.end ≡ ended (start + length bytes) =
            grind arith in
            a.1 (grind arith),
      );
  sections = λ given run a.
      let w : ReadsOn start features bytes [] (map given_report given) = search (walks, begins) in
      subst (λ (y : List (ℕ × Range ℕ)). TiledBySections bytes start y a.encoding a.frames) (same_sections given w.events w.gives)
      (search sections_tile);
}

-- the walk of a parser that has passed nothing
pub walks_whole : (p : ParserState) (bytes : List ℕ) (walk : Walk) → All (λ b. b < 256) bytes → walk ≡ walk_over p bytes
    → WalksWhole p bytes walk
walks_whole p bytes walk each w start features same fits = grind (arith, gives_reading)
