-- What each call does to where a feeder is along what a source gave.
use Rattle.wasm_streams.proofs.Common.{◌≡◌, ℕ, ◌+◌, ◌^◌, ◌<◌, Bool, true, false, List, [], ◌∷◌, ◌++◌, length, refl, sym, ap}
use Rattle.wasm_streams.proofs.Common.{◌∙◌, arith, length-append, ◌≤◌, append-nil, Option, subst, inl, inr, Consumes-nil, Consumes-trans}
use Rattle.wasm_streams.proofs.Common.{Consumes, fault_at, at_offset, all_features, OffsetRange, fault, Ending, last_event, Event}
use Rattle.wasm_streams.proofs.Common.{answers_go_along, Came, ReadingBegins, is_end, FillsAlike, Feed}
use Rattle.wasm_streams.proofs.Common.{new_feed, pushed, weight, Reached, Asks, Moves, Stepped, turn_after}
use Rattle.wasm_streams.proofs.Common.{Told, Request, Part, Stop, answer_of, Ended, Fault}
use Rattle.std.specs.Io.KnownBytes.{IsAtEnd}
use Rattle.std.specs.Prelude.{if◌then◌else◌}
use Rattle.wasm_streams.specs.Beside.{IsAlike}
use Rattle.wasm_streams.specs.Lists.{IsEndedBy, IsWhole}
use Rattle.wasm_streams.specs.declared.turns.Ended.TheVariants.{End}
use Rattle.wasm_grammar.specs.Content.{ended}
use Rattle.wasm_grammar.specs.EventRanges.{consumed_by}
use Rattle.wasm_grammar.specs.Reading.{Report}
use Rattle.wasm_frames.specs.Along.{IsNoFault, ReadsEach}
use Rattle.wasm_frames.specs.GivesNextEvent.{MayBe}
use Rattle.wasm_streams.proofs.Stepping.{stepped as step_along}
use Rattle.wasm_streams.specs.declared.turns.Turn.TheVariants as turn

pub nothing_read : (source : Option (List ℕ)) → Reached source source (new_feed 0 all_features) []
nothing_read source = record {
  given = [];
  is_along = answers_go_along.begins 0 all_features;
  gave = Consumes-nil source;
  at_end = λ e. let no : true ≡ false = sym e in cc;
}

-- it depends only on the feeder's position, the bytes it holds, and whether the end was reported
pub alike : (source rest : Option (List ℕ)) (events : List Event) (f g : Feed) → IsAlike f g → Reached source rest f events
    → Reached source rest g events
alike source rest events f g a r = grind arith

-- ---- results

-- This event is the result, and not the last one.
abbrev pub IsEvent : Told → Event → Type 0
IsEvent (Request hint) e = ⊥
IsEvent (Part report bytes) e = (is_end report ≡ false) × (report ≡ e.report) × (e.consumed ≡ bytes)
IsEvent (Stop error) e = ⊥

-- The result is this ending.
abbrev pub IsEnding : Told → Ending → Type 0
IsEnding (Request hint) end = ⊥
IsEnding (Part report bytes) end = (is_end report ≡ true) × (report ≡ (last_event end).report)
    × (bytes ≡ [])
IsEnding (Stop error) end = end ≡ fault (fault_at error)

-- A stream ends so after these events, and a run as it does.
pub record AtEnd (given : List ℕ) (events : List Event) (eof : Bool) (how : Ended) (end : Ending) : Type 0 where
  pub ends : IsEndedBy how end
  pub within : length given < 2 ^ 64 → ReadsEach 0 all_features eof given (events ++ last_event end ∷ [])
  pub past_the_top : 2 ^ 64 ≤ length given → end ≡ fault (at_offset OffsetRange (length (consumed_by events)))
  pub whole : how ≡ End → (offset : ℕ) × (end ≡ ended offset) × (length given < 2 ^ 64)

pub all_given : (eof : Bool) (given : List ℕ) → MayBe eof given given
all_given eof given = grind (arith, append-nil)

-- what is done after a payload, by whether it is the end
if_end : (b : Bool) → turn.Advance ≡ (if b then turn.End End else turn.Advance) → b ≡ false
if_end b t = grind arith

no_read : (b : Bool) → turn.Read ≡ (if b then turn.End End else turn.Advance) → ⊥
no_read b t = grind arith

at_end : (b : Bool) (how : Ended) → turn.End how ≡ (if b then turn.End End else turn.Advance) → (b ≡ true) × (how ≡ End)
at_end b how t = grind arith

-- ---- where the feeder is

module _ (source rest : Option (List ℕ)) (f : Feed) (events : List Event) (r : Reached source rest f events) where
  pub ends_at : f.state.offset + length f.held ≡ length r.given
  ends_at = let o : f.state.offset + length f.held ≡ 0 + length r.given =
      answers_go_along.ends 0 all_features r.given f.state f.held events r.is_along in omega (arith, o)

  pub consumed : r.given ≡ consumed_by events ++ f.held
  consumed = answers_go_along.consumed 0 all_features r.given f.state f.held events r.is_along

  -- the parser is where the events end
  passed : f.state.offset ≡ length (consumed_by events)
  passed = grind (arith, consumed, length-append, ends_at)

  -- with more bytes too, the reading begins with these events
  pub begins_with : (more : List ℕ) → ReadingBegins 0 all_features (r.given ++ more) events
  begins_with more = answers_go_along.first 0 all_features r.given f.state f.held events false r.is_along (r.given ++ more) (more, refl)

  pub begins : ReadingBegins 0 all_features r.given events
  begins = answers_go_along.first 0 all_features r.given f.state f.held events true r.is_along r.given refl

  -- the source's whole input is one of the streams that begin with what it gave
  pub whole_input : (all : List Event) → ReadsEach 0 all_features f.eof r.given all → IsWhole source r.given all
  whole_input all e = grind (arith, all_given, append-nil)

  -- ---- a step

  module _ (g : Feed) where
    -- what it says, if the given bytes are below the top
    stepped : (x : Told) → Moves f x g → length r.given < 2 ^ 64
        → Stepped 0 all_features f.eof r.given events x g.state g.held
    stepped x s l = step_along 0 all_features r.given f.state f.held events r.is_along f.eof x g.state g.held (omega (arith, l))
        s.parses s.shows

    below : (x : Told) → Moves f x g → IsNoFault (answer_of x) → length r.given < 2 ^ 64
    below x s n = let o = answers_go_along.below f.state g.state f.eof f.held (answer_of x) s.parses n in omega (arith, o, ends_at)

    came : (report : Report) (bytes : List ℕ) → Moves f (Part report bytes) g
        → Came 0 all_features f.eof r.given events bytes report g.state g.held
    came report bytes s = stepped (Part report bytes) s (below (Part report bytes) s tt)

    -- an event that isn't the last one: there is less to consume
    pub next_event : (x : Told) → Moves f x g → turn.Advance ≡ turn_after x
        → (e : Event) × IsEvent x e × Reached source rest g (events ++ e ∷ []) × (weight g < weight f)
    next_event (Request hint) s t = cc
    next_event (Part report bytes) s t =
        let n = if_end (is_end report) t in
        let came = came report bytes s in
        let (after, some) = came.goes_on n in
        let o : g.state.offset + length g.held ≡ 0 + length r.given =
        answers_go_along.ends 0 all_features r.given g.state g.held (events ++ came.event ∷ []) after in
        let l : length f.held ≡ length bytes + length g.held = grind (arith, length-append) in (
          came.event,
          (n, came.is_report, came.consumed),
          record { given = r.given; is_along = after; gave = r.gave; at_end = λ e. r.at_end (sym s.eof ∙ e) },
          rw s.eof (omega (arith, ends_at, o, l, some, below (Part report bytes) s tt)),
        )
    next_event (Stop e) s t = cc

    -- a request: the parser is undecided
    pub next_asks : (x : Told) → Moves f x g → turn.Read ≡ turn_after x
        → (hint : ℕ) × (x ≡ Request hint) × Asks source rest g events × (weight g ≡ weight f)
    next_asks (Request hint) s t =
        let l = below (Request hint) s tt in
        let (u, a) = stepped (Request hint) s l in
        let stays : g.state ≡ f.state = cc in (
          hint,
          refl,
          record {
            reached = record { given = r.given; is_along = a; gave = r.gave; at_end = λ e. r.at_end (sym s.eof ∙ e) };
            hint = hint;
            undecided = rw s.eof u;
            below = l;
          },
          rw (stays, sym s.shows, s.eof) refl,
        )
    next_asks (Part report bytes) s t = absurd (no_read (is_end report) t)
    next_asks (Stop e) s t = cc

    pub next_ends : (x : Told) → Moves f x g → (how : Ended) → turn.End how ≡ turn_after x
        → (end : Ending) × AtEnd r.given events f.eof how end × IsEnding x end
    next_ends (Request hint) s how t = cc
    next_ends (Part report bytes) s how t =
        let (e, is_it) = at_end (is_end report) how t in
        let l = below (Part report bytes) s tt in
        let came = came report bytes s in
        let (offset, last) = came.last e in (
          ended offset,
          record {
            ends = subst (λ (h : Ended). IsEndedBy h (ended offset)) (sym is_it) tt;
            within = λ _. subst (λ (y : Event). ReadsEach 0 all_features f.eof r.given (events ++ y ∷ [])) last (came.ends e);
            past_the_top = λ h. absurd (omega (arith, h, l));
            whole = λ _. (offset, refl, l);
          },
          (e, came.is_report ∙ ap (λ (y : Event). y.report) last, sym came.consumed ∙ ap (λ (y : Event). y.consumed) last),
        )
    next_ends (Stop e) s how t =
        let is_it : how ≡ Fault e = cc in (
          fault (fault_at e),
          record {
            ends = rw is_it refl;
            within = λ l. (stepped (Stop e) s l).0;
            past_the_top = grind (arith, ends_at, passed);
            whole = λ z. let no : Fault e ≡ End = sym is_it ∙ z in cc;
          },
          refl,
        )

-- ---- a read

module _ (source rest : Option (List ℕ)) (f : Feed) (events : List Event) (a : Asks source rest f events) (rest' : Option (List ℕ)) where
  -- more bytes arrived, or none: the end
  abbrev pub arrived : (piece : List ℕ) (eof : Bool) → Consumes rest rest' piece → (eof ≡ true → IsAtEnd rest')
      → Reached source rest' (record (pushed f piece) { eof = eof }) events
  arrived piece eof gave end = record {
    given = a.reached.given ++ piece;
    is_along = answers_go_along.more 0 all_features a.reached.given f.state f.held events piece a.reached.is_along;
    gave = Consumes-trans source rest rest' a.reached.given piece a.reached.gave gave;
    at_end = end;
  }

  pub reads_on : (g : Feed) → FillsAlike rest rest' f g → Reached source rest' g events × (weight g < weight f)
  reads_on g (inl (none, end, alikes)) = grind (arith, alike, append-nil)
  reads_on g (inr (piece, gave, some, alikes)) = (
    alike source rest' events (record (pushed f piece) { eof = f.eof }) g (grind arith) (arrived piece f.eof gave
        (λ e. let no : true ≡ false = sym e ∙ a.undecided.0 in cc)),
    grind (arith, ends_at, length-append),
  )
