-- How far a dump has come after a part that was skipped by its first fields, and dropped.
use Rattle.wasm_dumper.proofs.Common.{◌≡◌, ℕ, ◌+◌, ◌<◌, Bool, true, false, List, [], ◌∷◌, ◌++◌, Some, None, Err, refl, sym, ap, subst}
use Rattle.wasm_dumper.proofs.Common.{subst₂, ◌∙◌, Option, Consumes-trans}
use Rattle.wasm_dumper.proofs.Common.{Error, seen, lending, Feed, pushed, weight, Moves, Cursor, Stop, Fault}
use Rattle.wasm_dumper.proofs.Common.{fault, Event, last_event, input_failed, ListError, Input, Writing, IsWritten, Adds}
use Rattle.wasm_dumper.proofs.Common.{IsOut, chosen_line, after, no_counts}
use Rattle.wasm_dumper.proofs.Common.{AreOf, DumpsInto, ShowsAnswer, bytes_of_events, origin, FailsWithin, Skips, Counts, Only}
use Rattle.wasm_base.specs.FaultAt.{at_offset}
use Rattle.wasm_base.specs.declared.fault.Fault.TheVariants.{UnexpectedEof}
use Rattle.wasm_dumper.specs.Hiding.{CountsOutline, DropsPart, ReportsOutline, ShowsOutline}
use Rattle.wasm_dumper.specs.declared.hidden.Skipped.{Skipped}
use Rattle.wasm_streams.specs.Passing.{SkipsHere, held_by}
use Rattle.wasm_streams.specs.Progress.{Reached}
use Rattle.wasm_frames.specs.SkipNext.{Head, skip_in}
use Rattle.wasm_dumper.specs.Dumping.{Dumping, HasWritten, IsFresh, WrittenWith, outline_of}
use Rattle.wasm_dumper.proofs.Dumping.{ShowsStep, Wanting, all, bytes_more, dumped, events_are}
use Rattle.wasm_dumper.proofs.Dumping.{has_failed, not_whole, numbers_of, source, stopped_after, whole}
use Rattle.wasm_dumper.proofs.Numbering.{all_more, events_more}
use Rattle.wasm_streams.proofs.ForCallers.{one_more, reads_short}
use Rattle.wasm_dumper.proofs.ShortParts as short
use Rattle.wasm_streams.specs.declared.turns.Turn.TheVariants as turn

-- the bytes of a step are those that it sees
pub skips_here : (only : List Only) (has_bytes : Bool) (old : Cursor) (stored chunk kept rest bytes : List ℕ) (part : Skipped)
    (new : Cursor)
    → bytes ≡ seen kept rest → kept ≡ stored → rest ≡ chunk → Skips only has_bytes old bytes part new
    → Skips only has_bytes old (seen stored chunk) part new
skips_here only has_bytes old stored chunk kept rest bytes part new read kept_is rest_is h =
    rw (sym rest_is, sym kept_is, sym read) h

-- ---- the part is dropped

-- the lines so far are written, and the parser has skipped a part
module _ (only : List Only) (has_bytes : Bool) (full rest : Option (List ℕ)) (before : Writing) (cur : Cursor) (stored chunk : List ℕ)
    (c : Counts) (now last : Writing) (d : Wanting only has_bytes full rest before (lending stored chunk cur) c now) (a : Adds now last)
    (out : IsOut last) (going : last.why ≡ None) (part : Skipped) (skipped : Cursor)
    (h : Skips only has_bytes cur (seen stored chunk) part skipped) (rest' : Option (List ℕ)) where
  abbrev stays : Head → Bool
  stays head = false

  abbrev sk : SkipsHere stays cur (seen stored chunk) part.passing skipped
  sk = h.skips

  written : HasWritten only has_bytes before d.events last
  written = all only has_bytes full rest before (lending stored chunk cur) c now last d a out going

  -- the source failed within the part
  pub failed_within : (had mid has : Bool) → mid ≡ had → (e : ListError)
      → FailsWithin rest rest' part.passing.size (held_by skipped stored chunk) e → has ≡ input_failed {A = Option Error} (Err e) mid
      → DumpsInto only has_bytes (source full rest' had has) before (Err e) last
  failed_within had mid has m e w s =
      let failed_so : has ≡ input_failed {A = Option Error} (Err Input) mid = rw w.is at s in
      subst (λ (x : ListError). DumpsInto only has_bytes (source full rest' had has) before (Err x) last) (sym w.is)
      (λ taken failed i.
      let (numbers, are, wrote) = written taken failed i in
      let outline = outline_of before.style only d.events in
      let bytes = bytes_of_events has_bytes only d.events in
      let o = origin before.style taken failed outline numbers bytes in
      dumped outline numbers bytes (record {
        given = d.asks.reached.given ++ w.given;
        events = d.events;
        last = last_event (fault (at_offset UnexpectedEof part.passing.from));
        gave = Consumes-trans full rest rest' d.asks.reached.given w.given d.asks.reached.gave w.gave;
        listed = refl;
        reading = reads_short stays full rest d.events cur stored chunk d.asks part.passing skipped sk w.given w.fewer;
      }) (numbers_of None false only has_bytes full rest (lending stored chunk cur) d.events d.asks.reached rest' w.given w.gave numbers
      (not_whole (held_by cur stored chunk ++ w.given)) are) (whole o last going out wrote) failed_so (has_failed o last going wrote))

  -- the part was dropped, or the source ended within it
  module _ (cut : Option Error) (left : List ℕ) (x : DropsPart rest rest' part.passing (held_by skipped stored chunk) cut left) where
    -- it was dropped, and what is shown of it was written
    module _ (n : cut ≡ None) (new : Feed) (state : new.state ≡ skipped.parser) (held : new.held ≡ left)
        (eof : new.eof ≡ skipped.is_finished) (shown : Writing) (shows : ShowsOutline only has_bytes c part.outline last shown) where
      came : (e : Event) × (skip_in e.report ≡ Some sk.skip) × (e.consumed ≡ x.part) × Reached full rest' new (d.events ++ e ∷ [])
          × (weight new < weight (lending stored chunk cur))
      came = short.came only has_bytes full rest cur stored chunk d.events d.asks part skipped h rest' cut left x n new state held eof

      abbrev e : Event
      e = came.0

      is_it : ReportsOutline only has_bytes part.outline e.report
      is_it = (sk.skip, came.1, h.shows)

      abbrev events : List Event
      events = d.events ++ e ∷ []

      written_more : (taken : Option (List ℕ)) (failed : Bool) → IsFresh before taken failed
          → WrittenWith shown.why only has_bytes events before.style taken failed (outline_of before.style only events) shown
      written_more taken failed i =
          let (numbers, are, wrote) = written taken failed i in
          let was = outline_of before.style only d.events in
          let bytes = bytes_of_events has_bytes only d.events in
          let (more, of, going) = shows e.report e.consumed is_it (origin before.style taken failed was numbers bytes) wrote in (
            numbers ++ more,
            events_more shown.why only no_counts d.events numbers e more (events_are shown.why only no_counts d.events numbers are)
                (subst (λ (k : Counts). AreOf shown.why only k e.report more) d.counted of),
            subst₂ (λ (y z : List ℕ). IsWritten (origin before.style taken failed y (numbers ++ more) z) shown)
                (sym (one_more (chosen_line before.style only) d.events e))
                (sym (bytes_more has_bytes only d.events e e.report e.consumed refl refl)) going,
          )

      pub dropped : (c' : Counts) → CountsOutline only has_bytes part.outline c c' → shown.why ≡ None
          → Dumping only has_bytes full rest' before new c' shown × (weight new < weight (lending stored chunk cur))
      dropped c' counts on = (
        record {
          events = events;
          reached = came.3;
          counted = counts e.report is_it
              ∙ (ap (λ (y : Counts). after y e.report) d.counted ∙ sym (all_more no_counts d.events e));
          writing = λ taken failed i. subst (λ (why : Option ListError).
              WrittenWith why only has_bytes events before.style taken failed (outline_of before.style only events) shown) on
              (written_more taken failed i);
        },
        came.4,
      )

      -- the tree stopped meanwhile
      pub stopped_within : (had has : Bool) → has ≡ had → (why : ListError) → shown.why ≡ Some why
          → DumpsInto only has_bytes (source full rest' had has) before (Err why) shown
      stopped_within had has same why w = stopped_after only has_bytes full rest' before new events came.3 had has same shown.why shown
          shown why written_more (λ o i. i) w

    -- the source ended within the part: all that arrived is the fault
    module _ (error : Error) (cuts : cut ≡ Some error) where
      abbrev feed : Feed
      feed = record (pushed (lending stored chunk cur) x.fetched) { eof = true }

      pub fault_step : Moves feed (Stop error) feed
      fault_step = short.fault_step only has_bytes full rest cur stored chunk d.events d.asks part skipped h rest' cut left x error cuts

      pub dumping_short : Dumping only has_bytes full rest' before feed c last
      dumping_short = record {
        events = d.events;
        reached = short.reached_short only has_bytes full rest cur stored chunk d.events d.asks part skipped h rest' cut left x error cuts;
        counted = d.counted;
        writing = written;
      }

      pub shows_fault : (shown : Writing) (c' : Counts) → ShowsAnswer only has_bytes c (Stop error) last shown → c' ≡ c
          → ShowsStep only has_bytes c c' feed feed last shown (turn.End (Fault error))
      shows_fault shown c' s same = record {
        answer = Stop error;
        steps = fault_step;
        turns = refl;
        shows = s;
        counted = same;
        no_request = λ hint is. cc;
      }
