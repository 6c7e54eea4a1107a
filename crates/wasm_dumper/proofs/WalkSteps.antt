-- What a walker has seen of a stream, turn by turn.
use Rattle.wasm_dumper.proofs.Common.{◌≡◌, ℕ, ◌<◌, Bool, false, List, [], ◌∷◌, ◌++◌, Some, None, Ok, Err, refl, sym, ap, ◌∙◌}
use Rattle.wasm_dumper.proofs.Common.{append-nil, append_assoc, Option, Result, Error, fault_at, Feed, Moves, turn_after, Told, Fault}
use Rattle.wasm_dumper.proofs.Common.{fault, stream_end, weight}
use Rattle.wasm_dumper.proofs.Common.{Request, Part, Stop, Ending, Event, last_event, after, after_all, no_counts, Counts, ListError}
use Rattle.std.proofs.Common.{inl, inr}
use Rattle.std.specs.Prelude.{IfErr, OnOk}
use Rattle.wasm_dumper.proofs.Dumping.{source}
use Rattle.wasm_dumper.proofs.Numbering.{all_more}
use Rattle.wasm_dumper.specs.Dump.{after_answer}
use Rattle.wasm_dumper.specs.Hiding.{CountsOutline, ReportsOutline}
use Rattle.wasm_dumper.specs.Failing.{FailsAfter, FailsToRead}
use Rattle.wasm_dumper.specs.Requests.{GoesOn}
use Rattle.wasm_dumper.specs.Walking.{SeesLast, SeesOutline, Walking, walk_stages}
use Rattle.wasm_dumper.specs.declared.events.Only.TheVariants.{All}
use Rattle.wasm_dumper.specs.declared.hidden.Outline.{Outline}
use Rattle.wasm_dumper.specs.Walks.{SeesAll, SeesFirst, SeesStream, SeesWhole, events_seen, report_seen}
use Rattle.wasm_io.specs.Calls.{Device, bytes_of, from_to}
use Rattle.wasm_io.specs.declared.devices.ListError.TheVariants.{Input, Memory, Output}
use Rattle.wasm_show.specs.Seen.{Seen}
use Rattle.wasm_show.specs.Walk.{Sees}
use Rattle.wasm_streams.specs.Feed.{new_feed}
use Rattle.wasm_base.specs.Features.{all_features}
use Rattle.wasm_streams.specs.Progress.{Asks, Reached}
use Rattle.wasm_streams.specs.Visits.{Finishes, GivesOut, MayBegin, MeetsRequest, Met, Taken, TakesStep, since, turned}
use Rattle.wasm_streams.specs.declared.turns.Ended.{Ended}
use Rattle.wasm_streams.specs.declared.turns.Turn.{Turn}
use Rattle.wasm_streams.specs.declared.turns.Turn.TheVariants as turn
use Rattle.wasm_streams.proofs.ForCallers.{IsEnding, IsEvent, begins, next_asks, next_ends, next_event, nothing_read}
use Rattle.wasm_streams.proofs.ForCallers.{whole_input}
use Rattle.wasm_show.proofs.ForCallers.{sees_nothing, sees_same, sees_then}

module _ {W : Type 0} (saw : W → List Seen → W → Type 0) (why : W → Option ListError) (deep : Bool) where
  -- ---- events

  pub events_more : (c : Counts) (events : List Event) (e : Event)
      → events_seen deep c (events ++ e ∷ []) ≡ events_seen deep c events ++ report_seen deep (after_all c events) e.report
  events_more c [] e = append-nil (report_seen deep c e.report)
  events_more c (x ∷ events) e = ap (λ (l : List Seen). report_seen deep c x.report ++ l) (events_more (after c x.report) events e)
      ∙ sym (append_assoc (report_seen deep c x.report) (events_seen deep (after c x.report) events)
      (report_seen deep (after_all (after c x.report) events) e.report))

  -- of the result of a step
  abbrev pub answer_seen : Counts → Told → List Seen
  answer_seen c (Request hint) = []
  answer_seen c (Part report bytes) = report_seen deep c report
  answer_seen c (Stop e) = report_seen deep c (stream_end (fault (fault_at e)))

  event_is : (c : Counts) (x : Told) (e : Event) → IsEvent x e
      → (answer_seen c x ≡ report_seen deep c e.report) × (after_answer c x ≡ after c e.report)
  event_is c (Part report bytes) e (n, says, is) = (ap (report_seen deep c) says, ap (after c) says)
  event_is c _ e is = absurd is

  ending_is : (c : Counts) (x : Told) (end : Ending) → IsEnding x end → answer_seen c x ≡ report_seen deep c (last_event end).report
  ending_is c (Request hint) end is = absurd is
  ending_is c (Part report bytes) end is = ap (report_seen deep c) is.1
  ending_is c (Stop e) end is = ap (λ (y : Ending). report_seen deep c (last_event y).report) (sym is)

  -- ---- a step

  module _ (full rest : Option (List ℕ)) (f : Feed) (c : Counts) (start now : W) (d : Walking saw why deep full rest f c start now)
      (g : Feed) (x : Told) (steps : Moves f x g) (new : W) (sees : Sees saw why (answer_seen c x) now new) where
    -- what was seen before and in this step
    both : (e : Event) → answer_seen c x ≡ report_seen deep c e.report → Sees saw why (events_seen deep no_counts (d.events ++ e ∷ []))
        start new
    both e is = sees_same saw why (events_seen deep no_counts d.events ++ answer_seen c x) _ start new
        (ap (λ (l : List Seen). events_seen deep no_counts d.events ++ l)
        (is ∙ ap (λ (k : Counts). report_seen deep k e.report) d.counted) ∙ sym (events_more no_counts d.events e))
        (sees_then saw why _ _ start now new d.sees sees)

    pub walk_advanced : (c' : Counts) → c' ≡ after_answer c x → turn_after x ≡ turn.Advance
        → Walking saw why deep full rest g c' start new × (weight g < weight f)
    walk_advanced c' counted t =
        let (e, is, reached, less) = next_event full rest f d.events d.reached g x steps (sym t) in
        let (seen, count) = event_is c x e is in (
          record {
            events = d.events ++ e ∷ [];
            reached = reached;
            counted = counted ∙ (count ∙ (ap (λ (k : Counts). after k e.report) d.counted ∙ sym (all_more no_counts d.events e)));
            sees = both e seen;
          },
          less,
        )

    pub walk_ended : (how : Ended) → turn_after x ≡ turn.End how → SeesAll saw why deep (from_to full rest) how start new
    walk_ended how t =
        let (end, a, is) = next_ends full rest f d.events d.reached g x steps how (sym t) in
        record {
          seen = events_seen deep no_counts (d.events ++ last_event end ∷ []);
          of_stream = record {
            given = d.reached.given;
            first = d.events;
            end = end;
            gave = d.reached.gave;
            ends = a.ends;
            within = λ l. whole_input full rest f d.events d.reached (d.events ++ last_event end ∷ []) (a.within l);
            past_the_top = λ l. record { begins = begins full rest f d.events d.reached; is_fault = a.past_the_top l };
            is = refl;
          };
          sees = both (last_event end) (ending_is c x end is);
        }

  -- ---- a walk that ends

  module _ (input : Device) (same : input.has_failed ≡ input.had_failed) (start now : W) where
    pub ended : (how : Ended) → SeesAll saw why deep (bytes_of input) how start now → why now ≡ None
        → SeesWhole saw why deep input how start now
    ended how s going = record { all = s; going = going; unfailed = same }

    -- the walker has stopped
    pub stopped : (f : Feed) (c : Counts) → Walking saw why deep input.before input.after f c start now → (stop : ListError)
        → why now ≡ Some stop → SeesFirst saw why deep input stop start now
    stopped f c d stop w = record {
      given = d.reached.given;
      first = d.events;
      gave = d.reached.gave;
      begins = λ l. begins input.before input.after f d.events d.reached;
      sees = d.sees;
      because = inl (w, same);
    }

    pub stopped_at_last : (how : Ended) → SeesAll saw why deep (bytes_of input) how start now → (stop : ListError)
        → why now ≡ Some stop → SeesFirst saw why deep input stop start now
    stopped_at_last how s stop w =
        let o = s.of_stream in
        let events = o.first ++ last_event o.end ∷ [] in
        record {
          given = o.given;
          first = events;
          gave = o.gave;
          begins = λ l. record { events = events; more = []; reading = (o.within l).reading; begins = sym (append-nil events) };
          sees = sees_same saw why s.seen _ start now o.is s.sees;
          because = inl (w, same);
        }

    -- an allocation failed
    pub no_memory : (f : Feed) (c : Counts) → Walking saw why deep input.before input.after f c start now
        → SeesFirst saw why deep input Memory start now
    no_memory f c d = record {
      given = d.reached.given;
      first = d.events;
      gave = d.reached.gave;
      begins = λ l. begins input.before input.after f d.events d.reached;
      sees = d.sees;
      because = inr same;
    }

  -- ---- a request

  -- What was seen where the feeder asks for more.
  pub record Seeking (full rest : Option (List ℕ)) (f : Feed) (c : Counts) (start now : W) : Type 0 where
    pub events : List Event
    pub asks : Asks full rest f events
    pub counted : c ≡ after_all no_counts events
    pub sees : Sees saw why (events_seen deep no_counts events) start now

  pub sought : (full rest : Option (List ℕ)) (e : Feed) (c : Counts) (start now : W) → Walking saw why deep full rest e c start now
      → (f : Feed) (hint : ℕ) → Moves e (Request hint) f → Seeking full rest f c start now
  sought full rest e c start now d f hint s =
      let (h, is, asks, same) = next_asks full rest e d.events d.reached f (Request hint) s refl in
      record { events = d.events; asks = asks; counted = d.counted; sees = d.sees }

  pub filled : (full rest : Option (List ℕ)) (f : Feed) (c : Counts) (start now : W) (d : Seeking full rest f c start now)
      → (rest' : Option (List ℕ)) (g : Feed) → GoesOn full rest' f g d.events
      → Walking saw why deep full rest' g c start now × (weight g < weight f)
  filled full rest f c start now d rest' g (reached, less) =
      (record { events = d.events; reached = reached; counted = d.counted; sees = d.sees }, less)

  -- a read failed
  module _ (full rest : Option (List ℕ)) (f : Feed) (c : Counts) (start now : W) (d : Seeking full rest f c start now) (call : Device)
      (had : Bool) (mid : call.had_failed ≡ had) where
    since_so : (given : List ℕ) (e : ListError) → FailsToRead call given d.events e → FailsToRead (since full had call) given d.events e
    since_so given Input x = x
    since_so given Memory x = x ∙ mid
    since_so given Output x = absurd x

    pub failed : (e : ListError) → FailsAfter full call d.events e → SeesFirst saw why deep (since full had call) e start now
    failed e x = record {
      given = x.given;
      first = d.events;
      gave = x.gave;
      begins = λ l. x.begins;
      sees = d.sees;
      because = inr (since_so x.given e x.because);
    }

  -- nothing was seen yet
  nothing_seen : (full : Option (List ℕ)) (c : Counts) (start : W) → c ≡ no_counts
      → Walking saw why deep full full (new_feed 0 all_features) c start start
  nothing_seen full c start none =
      record { events = []; reached = nothing_read full; counted = none; sees = sees_nothing saw why start }

  -- no memory to begin with
  pub no_room : (full : Option (List ℕ)) (had : Bool) (start : W)
      → SeesFirst saw why deep (source full full had had) Memory start start
  no_room full had start = no_memory (source full full had had) refl start start (new_feed 0 all_features) no_counts
      (nothing_seen full no_counts start refl)

  module _ {V : Type 0} (counts : V → Counts) where
    pub may_begin : (first : V) (start : W) (full : Option (List ℕ)) (had : Bool) → counts first ≡ no_counts
        → MayBegin (walk_stages saw why deep counts) first start full had
    may_begin first start full had none = nothing_seen full (counts first) start none

    pub takes : (old new : V) (before after : W) (x : Told) → ((hint : ℕ) → x ≡ Request hint → ⊥) → (result : Result (Unit {0}) ListError)
        → Sees saw why (answer_seen (counts old) x) before after → counts new ≡ after_answer (counts old) x
        → OnOk result (why after ≡ None) → IfErr result (λ stop. why after ≡ Some stop)
        → TakesStep (walk_stages saw why deep counts) old before x result new after
    takes old new before after x never result sees counted on off first start input f g same going moves =
        by (turn_after x) refl result on off
      where
        advanced : turn_after x ≡ turn.Advance → Walking saw why deep input.before input.after g (counts new) start after
            × (weight g < weight f)
        advanced t = walk_advanced input.before input.after f (counts old) start before going g x moves after sees (counts new) counted t

        all : (how : Ended) → turn_after x ≡ turn.End how → SeesAll saw why deep (bytes_of input) how start after
        all how t = walk_ended input.before input.after f (counts old) start before going g x moves after sees how t

        by : (t : Turn) → turn_after x ≡ t → (result : Result (Unit {0}) ListError) → OnOk result (why after ≡ None)
            → IfErr result (λ stop. why after ≡ Some stop)
            → Taken (walk_stages saw why deep counts) first start input f g (turned t result) new after
        by turn.Advance t (Ok done) on off = advanced t
        by turn.Advance t (Err stop) on off = stopped input same start after g (counts new) (advanced t).0 stop off
        by turn.Read t result on off =
            let (hint, is, asks, less) = next_asks input.before input.after f going.events going.reached g x moves (sym t) in
            absurd (never hint is)
        by (turn.End how) t (Ok done) on off = all how t
        by (turn.End how) t (Err stop) on off = stopped_at_last input same start after how (all how t) stop off

    -- what was done with a request
    abbrev pub MetBy : (start : W) (input : Device) (f g : Feed) → Result (Option Error) ListError → (now : V) (out : W) → Type 0
    MetBy start input f g (Ok None) now out =
        Walking saw why deep input.before input.after g (counts now) start out × (weight g < weight f)
    MetBy start input f g (Ok (Some e)) now out = SeesStream saw why deep input (Ok (Fault e)) start out
    MetBy start input f g (Err e) now out = SeesStream saw why deep input (Err e) start out

    pub requests : (old new : V) (before after : W) (input : Device) (f g : Feed) (result : Result (Option Error) ListError)
        → ((start : W) (full : Option (List ℕ)) (had : Bool) → input.had_failed ≡ had
        → Seeking full input.before f (counts old) start before → MetBy start (since full had input) f g result new after)
        → MeetsRequest (walk_stages saw why deep counts) old before input f result new after g
    requests old new before after input f g result m first start full had e hint mid going moves =
        met result (m start full had mid (sought full input.before e (counts old) start before going f hint moves))
      where
        met : (result : Result (Option Error) ListError) → MetBy start (since full had input) f g result new after
            → Met (walk_stages saw why deep counts) first start (since full had input) f g result new after
        met (Ok None) p = p
        met (Ok (Some e)) p = p
        met (Err e) p = p

    pub finishes : (old : V) (out : W) (result : Result (Unit {0}) ListError) → OnOk result (why out ≡ None)
        → IfErr result (λ stop. why out ≡ Some stop) → Finishes (walk_stages saw why deep counts) old out result out
    finishes old out (Ok done) on off first start input how same s = ended input same start out how s on
    finishes old out (Err stop) on off first start input how same s = stopped_at_last input same start out how s stop off

    pub gives_out : (old : V) (out : W) → GivesOut (walk_stages saw why deep counts) old out Memory out
    gives_out old out first start input f same going = no_memory input same start out f (counts old) going

  -- ---- a part that was skipped by its first fields, and dropped

  pub passed : (full rest : Option (List ℕ)) (f : Feed) (c : Counts) (start now : W) (d : Seeking full rest f c start now)
      (outline : Outline) (rest' : Option (List ℕ)) (new : Feed) (e : Event) → ReportsOutline (All ∷ []) false outline e.report
      → GoesOn full rest' f new (d.events ++ e ∷ []) → (shown : W) → SeesOutline saw why deep c outline now shown
      → (c' : Counts) → CountsOutline (All ∷ []) false outline c c'
      → Walking saw why deep full rest' new c' start shown × (weight new < weight f)
  passed full rest f c start now d outline rest' new e is (reached, less) shown sees c' counts = (
    record {
      events = d.events ++ e ∷ [];
      reached = reached;
      counted = counts e.report is ∙ (ap (λ (k : Counts). after k e.report) d.counted ∙ sym (all_more no_counts d.events e));
      sees = sees_same saw why (events_seen deep no_counts d.events ++ report_seen deep c e.report) _ start shown
          (ap (λ (l : List Seen). events_seen deep no_counts d.events ++ l) (ap (λ (k : Counts). report_seen deep k e.report) d.counted)
          ∙ sym (events_more no_counts d.events e)) (sees_then saw why _ _ start now shown d.sees (sees e.report is));
    },
    less,
  )

  -- the stream ended within it
  pub cut : (full rest : Option (List ℕ)) (f : Feed) (c : Counts) (start now : W) (d : Seeking full rest f c start now)
      (rest' : Option (List ℕ)) (error : Error) (last : Feed) → Reached full rest' last d.events → Moves last (Stop error) last
      → (new : W) → SeesLast saw why deep error now new → SeesAll saw why deep (from_to full rest') (Fault error) start new
  cut full rest f c start now d rest' error last reached moves new sees = walk_ended full rest' last c start now (record {
    events = d.events;
    reached = reached;
    counted = d.counted;
    sees = d.sees;
  }) last (Stop error) moves new sees (Fault error) refl
