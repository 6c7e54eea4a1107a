-- The next event of a reading after a prefix of its stream.
use Rattle.std.specs.Prelude.{◌≡◌, ℕ, ◌+◌, ◌<◌, ◌^◌, List, [], ◌++◌, ◌∷◌}
use Rattle.wasm_grammar.specs.Reading.{Event}
use Rattle.wasm_grammar.specs.EventRanges.{consumed_by}

-- | the event that comes next after a prefix: the one after those that consumed it
-- The event after those that consume the prefix.
pub record NextEvent (events : List Event) (prefix : List ℕ) : Type 0 where
  pub before : List Event
  pub event : Event
  pub later : List Event
  pub whole : events ≡ before ++ event ∷ later
  pub consumed : consumed_by before ≡ prefix
