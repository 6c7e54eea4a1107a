-- What a step that returns a payload says of a feeder.
use Rattle.wasm_feed.proofs.Common.{◌≡◌, Result, Feed}
use Rattle.wasm_base.specs.declared.error.Error.{Error}
use Rattle.wasm_feed.specs.Steps.{GivesStep, Steps, told}
use Rattle.wasm_feed.specs.declared.feeder.Step.{Step}
use Rattle.wasm_streams.proofs.ForCallers.{gives}

pub step_given : (old : Feed) (x : Result Step Error) (new : Feed) → Steps old x new → GivesStep old.state old.eof old.held x
step_given old x new s = record { gives = gives old (told x) new s.moves; items = s.items }

pub steps_from : (a b : Feed) (x : Result Step Error) (new : Feed) → a ≡ b → Steps a x new → Steps b x new
steps_from a b x new e s = rw e at s
