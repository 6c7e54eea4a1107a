-- How far a walk has come along a stream.
use Rattle.std.specs.Prelude.{◌≡◌, ◌∷◌, Bool, false, List, [], Option, ℕ}
use Rattle.wasm_base.specs.FaultAt.{fault_at}
use Rattle.wasm_base.specs.declared.error.Error.{Error}
use Rattle.wasm_dumper.specs.Counting.{after_all, no_counts}
use Rattle.wasm_dumper.specs.Hiding.{ReportsOutline}
use Rattle.wasm_dumper.specs.Walks.{SeesAll, SeesStream, events_seen, report_seen}
use Rattle.wasm_dumper.specs.declared.counts.Counts.{Counts}
use Rattle.wasm_dumper.specs.declared.events.Only.TheVariants.{All}
use Rattle.wasm_dumper.specs.declared.hidden.Outline.{Outline}
use Rattle.wasm_grammar.specs.Content.{fault}
use Rattle.wasm_grammar.specs.Reading.{Event, Report, stream_end}
use Rattle.wasm_io.specs.Calls.{bytes_of}
use Rattle.wasm_io.specs.declared.devices.ListError.{ListError}
use Rattle.wasm_show.specs.Seen.{Seen}
use Rattle.wasm_show.specs.Walk.{Sees}
use Rattle.wasm_streams.specs.Feed.{Feed}
use Rattle.wasm_streams.specs.Progress.{Reached}
use Rattle.wasm_streams.specs.Visits.{Stages}

module _ {W : Type 0} (saw : W → List Seen → W → Type 0) (why : W → Option ListError) (deep : Bool) where
  -- where the feeder is along what the source gave, what is counted of its events, and what was seen of them
  pub record Walking (full rest : Option (List ℕ)) (f : Feed) (c : Counts) (start now : W) : Type 0 where
    pub events : List Event
    pub reached : Reached full rest f events
    pub counted : c ≡ after_all no_counts events
    pub sees : Sees saw why (events_seen deep no_counts events) start now

  -- The fault at which the stream ends was seen, outside of all sections.
  abbrev pub SeesLast : Error → (old new : W) → Type 0
  SeesLast e old new = Sees saw why (report_seen deep no_counts (stream_end (fault (fault_at e)))) old new

  -- Whatever is reported of the part, it was seen.
  abbrev pub SeesOutline : Counts → Outline → (old new : W) → Type 0
  SeesOutline counts outline old new = (report : Report) → ReportsOutline (All ∷ []) false outline report
      → Sees saw why (report_seen deep counts report) old new

  -- | what is so of a walk at each stage of its run [`Walking`]
  abbrev pub walk_stages : {V : Type 0} → (counts : V → Counts) → Stages V W
  walk_stages counts = record {
    going = λ first start input f now out. Walking input.before input.after f (counts now) start out;
    ending = λ first start input how now out. SeesAll saw why deep (bytes_of input) how start out;
    done = λ first start input result out. SeesStream saw why deep input result start out;
  }
