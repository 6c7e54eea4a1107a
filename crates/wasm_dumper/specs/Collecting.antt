-- How far a collection of names has come along a stream.
use Rattle.std.specs.Prelude.{List, Option, ℕ}
use Rattle.wasm_dumper.specs.declared.collected.Collected.{Collected}
use Rattle.wasm_grammar.specs.Reading.{Event}
use Rattle.wasm_output.specs.ItemNames.{KeepsNames}
use Rattle.wasm_streams.specs.Feed.{Feed}
use Rattle.wasm_streams.specs.Progress.{Reached}
use Rattle.wasm_streams.specs.Visits.{Stages}

-- Whatever had a name has it still, by a section called `name` or by its symbol.
pub record Keeps (old new : Collected) : Type 0 where
  pub named : KeepsNames old.named new.named
  pub linked : KeepsNames old.linked.names new.linked.names

-- where the feeder is along what the source gave, and what was kept
pub record Collecting (full rest : Option (List ℕ)) (f : Feed) (start now : Collected) : Type 0 where
  pub events : List Event
  pub reached : Reached full rest f events
  pub keeps : Keeps start now

-- | what is so of a collection of names at each stage of its run [`Collecting`]
abbrev pub collect_stages : {V : Type 0} → Stages V Collected
collect_stages = record {
  going = λ first start input f now out. Collecting input.before input.after f start out;
  ending = λ first start input how now out. Keeps start out;
  done = λ first start input result out. Keeps start out;
}
