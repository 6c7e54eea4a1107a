-- What is known of a stream where a read failed.
use Rattle.std.specs.Prelude.{◌≡◌, ◌∷◌, ◌++◌, ℕ, true, List, [], Option}
use Rattle.std.specs.Io.KnownBytes.{Consumes}
use Rattle.wasm_base.specs.Features.{all_features}
use Rattle.wasm_frames.specs.Along.{ReadingBegins}
use Rattle.wasm_grammar.specs.Reading.{Event, Reading}
use Rattle.wasm_io.specs.Calls.{Device}
use Rattle.wasm_io.specs.declared.devices.ListError.{ListError}
use Rattle.wasm_io.specs.declared.devices.ListError.TheVariants.{Input, Memory, Output}

-- | what is known of a stream where a read failed: its first events, and of a source that failed that the next one was
--   not decided [`FailsAfter`, `FailsToRead`]
-- A read failed after these events: the source did, before the next event was decided; or an allocation.
abbrev pub FailsToRead : (input : Device) (given : List ℕ) (events : List Event) → ListError → Type 0
FailsToRead input given events Input =
    (input.has_failed ≡ true) × (next : Event) × Reading given 0 all_features (events ++ next ∷ [])
FailsToRead input given events Memory = input.has_failed ≡ input.had_failed
FailsToRead input given events Output = ⊥

-- What the source gave before begins with these events.
pub record FailsAfter (full : Option (List ℕ)) (input : Device) (events : List Event) (e : ListError) : Type 0 where
  pub given : List ℕ
  pub gave : Consumes full input.after given
  pub begins : ReadingBegins 0 all_features given events
  pub because : FailsToRead input given events e
