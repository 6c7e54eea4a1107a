-- A run over a stream that is read from a source, whatever is made of its parts.
use Rattle.std.specs.Prelude.{◌≡◌, ◌<◌, Bool, List, ℕ, Option, Some, None, Result, Ok, Err}
use Rattle.wasm_base.specs.Features.{all_features}
use Rattle.wasm_base.specs.declared.error.Error.{Error}
use Rattle.wasm_streams.specs.Feed.{Feed, new_feed}
use Rattle.wasm_streams.specs.Progress.{weight}
use Rattle.wasm_streams.specs.Step.{Told, Moves, Request}
use Rattle.wasm_streams.specs.Turns.{turn_after}
use Rattle.wasm_streams.specs.declared.turns.Ended.{Ended}
use Rattle.wasm_streams.specs.declared.turns.Ended.TheVariants.{Fault}
use Rattle.wasm_streams.specs.declared.turns.Turn.{Turn}
use Rattle.wasm_streams.specs.declared.turns.Turn.TheVariants as turn
use Rattle.wasm_io.specs.Calls.{Device}
use Rattle.wasm_io.specs.declared.devices.ListError.{ListError}

-- | what a visitor of a stream says of itself at each stage of a run, what it promises of each turn in these terms, and
--   where a run may begin [`Stages`, `TakesStep`, `MeetsRequest`, `Finishes`, `GivesOut`, `MayBegin`]
-- What is so of a visitor that was `first` and of its output that was `start`, when the source has come this far:
-- before a step of this feeder, after the end or the fault of the stream, and after the run.
pub record Stages (V W : Type 0) : Type 1 where
  pub going : (first : V) (start : W) (input : Device) → Feed → (now : V) (out : W) → Type 0
  pub ending : (first : V) (start : W) (input : Device) → Ended → (now : V) (out : W) → Type 0
  pub done : (first : V) (start : W) (input : Device) → Result Ended ListError → (out : W) → Type 0

-- the stage after a step was taken; a request is met, and not taken
abbrev pub Taken : {V W : Type 0} → Stages V W → (first : V) (start : W) (input : Device) (old new : Feed)
    → Result Turn ListError → (now : V) (out : W) → Type 0
Taken stages first start input old new (Ok turn.Advance) now out =
    stages.going first start input new now out × (weight new < weight old)
Taken stages first start input old new (Ok turn.Read) now out = Unit {0}
Taken stages first start input old new (Ok (turn.End how)) now out = stages.ending first start input how now out
Taken stages first start input old new (Err e) now out = stages.done first start input (Err e) out

-- what is done next, by what the call returned
abbrev pub turned : Turn → Result (Unit {0}) ListError → Result Turn ListError
turned next (Ok done) = Ok next
turned next (Err e) = Err e

-- A step that said this was taken, wherever the run was.
abbrev pub TakesStep : {V W : Type 0} → Stages V W → (old : V) (before : W) → Told → Result (Unit {0}) ListError
    → (new : V) (after : W) → Type 0
TakesStep {V} {W} stages old before said result new after = (first : V) (start : W) (input : Device) (f g : Feed)
    → input.has_failed ≡ input.had_failed → stages.going first start input f old before → Moves f said g
    → Taken stages first start input f g (turned (turn_after said) result) new after

-- the stage after a request was met: the run goes on, or the stream ended within a part that was skipped
abbrev pub Met : {V W : Type 0} → Stages V W → (first : V) (start : W) (input : Device) (old new : Feed)
    → Result (Option Error) ListError → (now : V) (out : W) → Type 0
Met stages first start input old new (Ok None) now out =
    stages.going first start input new now out × (weight new < weight old)
Met stages first start input old new (Ok (Some e)) now out = stages.done first start input (Ok (Fault e)) out
Met stages first start input old new (Err e) now out = stages.done first start input (Err e) out

-- a source that had this at first, before a call and after it
abbrev pub since : (full : Option (List ℕ)) (had : Bool) → Device → Device
since full had call = record call { before = full; had_failed = had }

abbrev pub until : (full : Option (List ℕ)) (had : Bool) → Device → Device
until full had call =
    record { before = full; after = call.before; had_failed = had; has_failed = call.had_failed }

-- The request of a step was met, wherever the run was before that step.
abbrev pub MeetsRequest : {V W : Type 0} → Stages V W → (old : V) (before : W) (input : Device) (f : Feed)
    → Result (Option Error) ListError → (new : V) (after : W) (g : Feed) → Type 0
MeetsRequest {V} {W} stages old before input f result new after g =
    (first : V) (start : W) (full : Option (List ℕ)) (had : Bool) (e : Feed) (hint : ℕ) → input.had_failed ≡ had
    → stages.going first start (until full had input) e old before → Moves e (Request hint) f
    → Met stages first start (since full had input) f g result new after

-- how a run ends that was to end so, by what its last call returned
abbrev pub ended_so : Ended → Result (Unit {0}) ListError → Result Ended ListError
ended_so how (Ok done) = Ok how
ended_so how (Err e) = Err e

-- All is written at the end.
abbrev pub Finishes : {V W : Type 0} → Stages V W → (old : V) (before : W) → Result (Unit {0}) ListError → (after : W)
    → Type 0
Finishes {V} {W} stages old before result after = (first : V) (start : W) (input : Device) (how : Ended)
    → input.has_failed ≡ input.had_failed → stages.ending first start input how old before
    → stages.done first start input (ended_so how result) after

-- An allocation failed, and so the run ends with this error.
abbrev pub GivesOut : {V W : Type 0} → Stages V W → (old : V) (before : W) → ListError → (after : W) → Type 0
GivesOut {V} {W} stages old before e after = (first : V) (start : W) (input : Device) (f : Feed)
    → input.has_failed ≡ input.had_failed → stages.going first start input f old before
    → stages.done first start input (Err e) after

-- a source that had this, before the first call
abbrev pub unread : (full : Option (List ℕ)) (had : Bool) → Device
unread full had = record { before = full; after = full; had_failed = had; has_failed = had }

-- This visitor may begin a run.
abbrev pub MayBegin : {V W : Type 0} → Stages V W → (first : V) (start : W) (full : Option (List ℕ)) (had : Bool)
    → Type 0
MayBegin stages first start full had =
    stages.going first start (unread full had) (new_feed 0 all_features) first start
