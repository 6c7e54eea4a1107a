-- What a request for more input comes to: a part is skipped by its first fields, or the source is read.
use Rattle.std.specs.Prelude.{◌∷◌, ◌++◌, ◌<◌, ℕ, Bool, List, [], Option, Result, Ok, Err}
use Rattle.wasm_dumper.specs.Failing.{FailsAfter}
use Rattle.wasm_dumper.specs.Hiding.{ReportsOutline}
use Rattle.wasm_dumper.specs.declared.events.Only.{Only}
use Rattle.wasm_dumper.specs.declared.hidden.Supplied.{Supplied}
use Rattle.wasm_dumper.specs.declared.hidden.Supplied.TheVariants.{Cut, Passed, Read}
use Rattle.wasm_grammar.specs.Reading.{Event}
use Rattle.wasm_io.specs.Calls.{Device}
use Rattle.wasm_io.specs.declared.devices.ListError.{ListError}
use Rattle.wasm_streams.specs.Feed.{Feed}
use Rattle.wasm_streams.specs.Progress.{Asks, Reached, weight}
use Rattle.wasm_streams.specs.Step.{Moves, Stop}

-- | what a request for more input comes to: the source was read; a part was skipped by its first fields, and is the
--   next event; the stream ends within it, which is its fault; or a read failed [`Meets`]
-- The feeder is further along, after these events.
abbrev pub GoesOn : (full rest : Option (List ℕ)) (old new : Feed) (events : List Event) → Type 0
GoesOn full rest old new events = Reached full rest new events × (weight new < weight old)

-- what it came to, for a feeder that asked for more after these events
abbrev pub MeetsAfter : List Only → (has_bytes : Bool) → (full : Option (List ℕ)) (input : Device) (old new : Feed)
    (events : List Event) → Result Supplied ListError → Type 0
MeetsAfter only has_bytes full input old new events (Ok Read) = GoesOn full input.after old new events
MeetsAfter only has_bytes full input old new events (Ok (Passed outline)) = (e : Event)
    × ReportsOutline only has_bytes outline e.report × GoesOn full input.after old new (events ++ e ∷ [])
MeetsAfter only has_bytes full input old new events (Ok (Cut error)) =
    (last : Feed) × Reached full input.after last events × Moves last (Stop error) last
MeetsAfter only has_bytes full input old new events (Err e) = FailsAfter full input events e

-- the same, wherever the feeder is in its stream
abbrev pub Meets : List Only → (has_bytes : Bool) → (input : Device) (old new : Feed) → Result Supplied ListError
    → Type 0
Meets only has_bytes input old new result = (full : Option (List ℕ)) (events : List Event)
    → Asks full input.before old events → MeetsAfter only has_bytes full input old new events result
