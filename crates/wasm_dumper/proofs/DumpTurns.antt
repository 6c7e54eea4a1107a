-- What a dump does at each turn of its run.
use Rattle.wasm_dumper.proofs.Common.{◌≡◌, ℕ, ◌<◌, Bool, List, Ok, Err, Some, None, refl, ◌∙◌, Option}
use Rattle.wasm_dumper.proofs.Common.{Error, Feed, Told, Moves, Part, Report, Request, Stop}
use Rattle.wasm_dumper.proofs.Common.{weight}
use Rattle.wasm_dumper.proofs.Common.{Counts, Only, Writing, ListError, Fault, DumpsInto, ShowsAnswer, turn_after, Adds, IsOut}
use Rattle.std.specs.Prelude.{IfErr, OnOk, Result}
use Rattle.wasm_dumper.proofs.Dumping.{ShowsStep, Wanting, advanced, ended, starts, stopped, stopped_after, stopped_at_last}
use Rattle.wasm_dumper.proofs.Dumping.{stopped_before, wanted}
use Rattle.wasm_dumper.specs.Counting.{no_counts}
use Rattle.wasm_dumper.specs.Dump.{after_answer}
use Rattle.wasm_dumper.specs.Dumping.{Done, Dumper, Dumping, Going, dump_stages, dumper}
use Rattle.wasm_streams.specs.Visits.{Finishes, GivesOut, MayBegin, Met, MeetsRequest, Taken, TakesStep, since}
use Rattle.wasm_streams.specs.declared.turns.Turn.{Turn}
use Rattle.wasm_streams.specs.declared.turns.Turn.TheVariants as turn
use Rattle.wasm_io.specs.Calls.{Device}

-- a part and a fault are no requests
pub part_is_no_request : (report : Report) (bytes : List ℕ) (hint : ℕ) → Part report bytes ≡ Request hint → ⊥
part_is_no_request report bytes hint is = cc

pub stop_is_no_request : (e : Error) (hint : ℕ) → Stop e ≡ Request hint → ⊥
stop_is_no_request e hint is = cc

module _ {V W : Type 0} (only : V → List Only) (has_bytes : V → Bool) (counts : V → Counts) (writing : W → Writing)
  where
    abbrev pub visitor : Dumper V W
    visitor = dumper only has_bytes counts writing

    -- nothing was shown yet
    pub may_begin : (first : V) (start : W) (full : Option (List ℕ)) (had : Bool) → counts first ≡ no_counts
        → MayBegin (dump_stages visitor) first start full had
    may_begin first start full had none = record {
      dumping = starts (only first) (has_bytes first) full (writing start) (counts first) none;
      same = (refl, refl);
    }

    -- the tree stopped where a step was to be made
    stopped_going : (old : V) (before after : W) (why : ListError) → Adds (writing before) (writing after)
        → (writing after).why ≡ Some why → (first : V) (start : W) (input : Device) (f : Feed) → input.has_failed ≡ input.had_failed
        → Going visitor first start input f old before → Done visitor first start input (Err why) after
    stopped_going old before after why a w first start input f same going =
        stopped_before (only first) (has_bytes first) input.before input.after (writing start) f (counts old) (writing before) going.dumping
        input.had_failed input.has_failed same (writing after) why a w

    -- and so before anything of the step was shown
    pub stops_before : (old new : V) (before after : W) (x : Told) (why : ListError) → Adds (writing before) (writing after)
        → (writing after).why ≡ Some why → TakesStep (dump_stages visitor) old before x (Err why) new after
    stops_before old new before after x why a w first start input f g same going moves =
        stopped_going old before after why a w first start input f same going

    -- a step was shown
    module _ (old new : V) (before after : W) (x : Told)
        (shows : ShowsAnswer (only old) (has_bytes old) (counts old) x (writing before) (writing after))
        (counted : counts new ≡ after_answer (counts old) x) (no_request : (hint : ℕ) → x ≡ Request hint → ⊥) where
      module _ (first : V) (start : W) (input : Device) (f g : Feed) (going : Going visitor first start input f old before)
          (moves : Moves f x g) where
        step : ShowsStep (only first) (has_bytes first) (counts old) (counts new) f g (writing before) (writing after) (turn_after x)
        step = record {
          answer = x;
          steps = moves;
          turns = refl;
          shows = rw (going.same.0, going.same.1) at shows;
          counted = counted;
          no_request = no_request;
        }

      stops : (why : ListError) → (writing after).why ≡ Some why → TakesStep (dump_stages visitor) old before x (Err why) new after
      stops why w first start input f g same going moves =
          stopped (only first) (has_bytes first) input.before input.after (writing start) f (counts old) (writing before) going.dumping g
          (counts new) (writing after) (turn_after x) (step first start input f g going moves) input.had_failed input.has_failed same why w

      goes_on : (done : Unit {0}) → (writing after).why ≡ None → only new ≡ only old → has_bytes new ≡ has_bytes old
          → TakesStep (dump_stages visitor) old before x (Ok done) new after
      goes_on done on o b first start input f g same going moves = by (turn_after x) refl
        where
          s : ShowsStep (only first) (has_bytes first) (counts old) (counts new) f g (writing before) (writing after) (turn_after x)
          s = step first start input f g going moves

          by : (t : Turn) → turn_after x ≡ t → Taken (dump_stages visitor) first start input f g (Ok t) new after
          by turn.Advance t =
              let (p, less) = advanced (only first) (has_bytes first) input.before input.after (writing start) f (counts old)
              (writing before) going.dumping g (counts new) (writing after) (turn_after x) s on t in (
                record {
                  dumping = p;
                  same = (o ∙ going.same.0, b ∙ going.same.1);
                },
                less,
              )
          by turn.Read t = tt
          by (turn.End how) t = record {
            whole = λ last a out went.
                ended (only first) (has_bytes first) input.before input.after (writing start) f (counts old) (writing before)
                going.dumping g (counts new) (writing after) (turn_after x) s input.had_failed input.has_failed same on how
                (writing last) t a out went;
            cut = λ last why a w.
                stopped_at_last (only first) (has_bytes first) input.before input.after (writing start) f (counts old) (writing before)
                going.dumping g (counts new) (writing after) (turn_after x) s input.had_failed input.has_failed same (writing last) why a w;
          }

      -- what came of it, by whether the tree has stopped
      pub takes : (result : Result (Unit {0}) ListError) → OnOk result ((writing after).why ≡ None)
          → IfErr result (λ why. (writing after).why ≡ Some why) → only new ≡ only old → has_bytes new ≡ has_bytes old
          → TakesStep (dump_stages visitor) old before x result new after
      takes (Ok done) on w o b = goes_on done on o b
      takes (Err why) on w o b = stops why w

    -- what was done with a request, by what the visitor shows
    abbrev pub MetBy : List Only → Bool → (start : W) (input : Device) (f g : Feed) → Result (Option Error) ListError → (now : V) (out : W)
        → Type 0
    MetBy chosen bytes start input f g (Ok None) now out =
        Dumping chosen bytes input.before input.after (writing start) g (counts now) (writing out)
        × (weight g < weight f)
    MetBy chosen bytes start input f g (Ok (Some e)) now out =
        DumpsInto chosen bytes input (writing start) (Ok (Fault e)) (writing out)
    MetBy chosen bytes start input f g (Err e) now out = DumpsInto chosen bytes input (writing start) (Err e) (writing out)

    pub requests : (old new : V) (before after : W) (input : Device) (f g : Feed) (result : Result (Option Error) ListError)
        → only new ≡ only old → has_bytes new ≡ has_bytes old
        → ((start : W) (full : Option (List ℕ)) (had : Bool) → input.had_failed ≡ had
        → Wanting (only old) (has_bytes old) full input.before (writing start) f (counts old) (writing before)
        → MetBy (only old) (has_bytes old) start (since full had input) f g result new after)
        → MeetsRequest (dump_stages visitor) old before input f result new after g
    requests old new before after input f g result o b m first start full had e hint mid going moves =
        let (own, bytes) = going.same in
        let wants = wanted (only first) (has_bytes first) full input.before (writing start) e (counts old) (writing before) going.dumping
        f hint moves in
        met result (rw (own, bytes) at (m start full had mid (rw (own, bytes) wants)))
      where
        met : (result : Result (Option Error) ListError)
            → MetBy (only first) (has_bytes first) start (since full had input) f g result new after
            → Met (dump_stages visitor) first start (since full had input) f g result new after
        met (Ok None) (p, less) = (record { dumping = p; same = (o ∙ going.same.0, b ∙ going.same.1) }, less)
        met (Ok (Some e)) ends = ends
        met (Err e) ends = ends

    -- the tree stopped where the feeder asks for more
    pub stops_asking : (own : V) (bytes : Bool) (start : W) (full : Option (List ℕ)) (had : Bool) (input : Device) (f : Feed) (old : V)
        (before after : W) (why : ListError) → input.has_failed ≡ had
        → Wanting (only own) bytes full input.after (writing start) f (counts old) (writing before) → Adds (writing before) (writing after)
        → (writing after).why ≡ Some why
        → DumpsInto (only own) bytes (record input { before = full; had_failed = had }) (writing start) (Err why) (writing after)
    stops_asking own bytes start full had input f old before after why same d a w =
        stopped_after (only own) bytes full input.after (writing start) f d.events d.asks.reached had input.has_failed same None
        (writing before) (writing after) why d.writing a w

    -- all was to be written out
    pub finishes : (old : V) (before after : W) (result : Result (Unit {0}) ListError) → Adds (writing before) (writing after)
        → IsOut (writing after) → OnOk result ((writing after).why ≡ None) → IfErr result (λ why. (writing after).why ≡ Some why)
        → Finishes (dump_stages visitor) old before result after
    finishes old before after (Ok done) a out on w first start input how same e = e.whole after a out on
    finishes old before after (Err why) a out on w first start input how same e = e.cut after why a w

    -- no memory was left
    pub gives_out : (old : V) (before after : W) (why : ListError) → Adds (writing before) (writing after)
        → (writing after).why ≡ Some why → GivesOut (dump_stages visitor) old before why after
    gives_out old before after why a w first start input f same going =
        stopped_going old before after why a w first start input f same going
