-- How far a dump has come along a stream.
use Rattle.std.specs.Prelude.{◌≡◌, ℕ, Bool, List, [], Option, Some, None, Result, Ok, Err}
use Rattle.wasm_dumper.specs.Chosen.{chosen_line}
use Rattle.wasm_dumper.specs.Counting.{after_all, no_counts}
use Rattle.wasm_dumper.specs.Dump.{AreOfEvents, DumpsInto, bytes_of_events, origin}
use Rattle.wasm_dumper.specs.declared.counts.Counts.{Counts}
use Rattle.wasm_dumper.specs.declared.events.Only.{Only}
use Rattle.wasm_streams.specs.Feed.{Feed}
use Rattle.wasm_streams.specs.Lists.{listing_by}
use Rattle.wasm_streams.specs.Progress.{Reached}
use Rattle.wasm_streams.specs.Visits.{Stages}
use Rattle.wasm_streams.specs.declared.turns.Ended.{Ended}
use Rattle.wasm_grammar.specs.Reading.{Event}
use Rattle.wasm_io.specs.Calls.{Device}
use Rattle.wasm_io.specs.declared.devices.ListError.{ListError}
use Rattle.wasm_output.specs.Numbers.{Number}
use Rattle.wasm_output.specs.Tree.{Adds, IsOut, IsWritten, Writing}
use Rattle.wasm_output.specs.declared.tree.Style.{Style}

-- a writer that has written nothing since this was taken
abbrev pub IsFresh : Writing → (taken : Option (List ℕ)) (failed : Bool) → Type 0
IsFresh w taken failed = IsWritten (origin w.style taken failed [] [] []) w

-- the lines of the first level of these events
abbrev pub outline_of : Style → List Only → List Event → List ℕ
outline_of style only events = listing_by (chosen_line style only) events

-- what was written with these events, and their numbers, where the tree has not stopped
abbrev pub WrittenWith : (why : Option ListError) → List Only → (has_bytes : Bool) → List Event → Style
    → (taken : Option (List ℕ)) (failed : Bool) (outline : List ℕ) → Writing → Type 0
WrittenWith why only has_bytes events style taken failed outline now =
    (numbers : List Number) × AreOfEvents why only no_counts events numbers
    × IsWritten (origin style taken failed outline numbers (bytes_of_events has_bytes only events)) now

-- the tree has written these events since it was fresh
abbrev pub HasWritten : List Only → (has_bytes : Bool) → (before : Writing) (events : List Event) (now : Writing)
    → Type 0
HasWritten only has_bytes before events now = (taken : Option (List ℕ)) (failed : Bool) → IsFresh before taken failed
    → WrittenWith None only has_bytes events before.style taken failed (outline_of before.style only events) now

-- where the feeder is along what the source gave, what is counted of its events, and what was written of them
pub record Dumping (only : List Only) (has_bytes : Bool) (full rest : Option (List ℕ)) (before : Writing) (f : Feed)
    (c : Counts) (now : Writing) : Type 0 where
  pub events : List Event
  pub reached : Reached full rest f events
  pub counted : c ≡ after_all no_counts events
  pub writing : HasWritten only has_bytes before events now

-- | a visitor that dumps, and what is so of it at each stage of its run [`Dumper`, `dump_stages`; `Going`, `Ending`,
--   `Done`]
-- What it shows and counts, and what its tree has written.
pub record Dumper (V W : Type 0) : Type 0 where
  pub only : V → List Only
  pub has_bytes : V → Bool
  pub counts : V → Counts
  pub writing : W → Writing

module _ {V W : Type 0} (d : Dumper V W) (first : V) (start : W) (input : Device) where
  pub record Going (f : Feed) (now : V) (out : W) : Type 0 where
    pub dumping : Dumping (d.only first) (d.has_bytes first) input.before input.after (d.writing start) f (d.counts now)
        (d.writing out)
    pub same : (d.only now ≡ d.only first) × (d.has_bytes now ≡ d.has_bytes first)

  abbrev pub Done : Result Ended ListError → (out : W) → Type 0
  Done result out = DumpsInto (d.only first) (d.has_bytes first) input (d.writing start) result (d.writing out)

  -- Once all is written out, the run ends so.
  pub record Ending (how : Ended) (now : V) (out : W) : Type 0 where
    pub whole : (last : W) → Adds (d.writing out) (d.writing last) → IsOut (d.writing last)
        → (d.writing last).why ≡ None → Done (Ok how) last
    pub cut : (last : W) (why : ListError) → Adds (d.writing out) (d.writing last) → (d.writing last).why ≡ Some why
        → Done (Err why) last

abbrev pub dump_stages : {V W : Type 0} → Dumper V W → Stages V W
dump_stages d = record {
  going = λ first start input f now out. Going d first start input f now out;
  ending = λ first start input how now out. Ending d first start input how now out;
  done = λ first start input result out. Done d first start input result out;
}

abbrev pub dumper : {V W : Type 0} → (only : V → List Only) (has_bytes : V → Bool) (counts : V → Counts)
    (writing : W → Writing) → Dumper V W
dumper only has_bytes counts writing = record { only = only; has_bytes = has_bytes; counts = counts; writing = writing }
