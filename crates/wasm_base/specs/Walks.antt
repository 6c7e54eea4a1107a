-- How far a loop over the items of a section has come.
use Rattle.std.specs.Prelude.{◌≡◌, ℕ, ◌<◌, false, List, Option, Result}
use Rattle.wasm_base.specs.FaultAt.{FaultAt}
use Rattle.wasm_base.specs.Outcome.{Outcome}
use Rattle.wasm_base.specs.Section.{Items, ReadsItem, ReadsEnd, WalksTo}
use Rattle.wasm_base.specs.Window.{Place}
use Rattle.wasm_base.specs.declared.error.Error.{Error}

-- Whatever a walk over the remaining items comes to, a walk over all of them comes to it.
pub record Walked {T : Type 0} (meaning : Place → Outcome T → Type 0) (count : ℕ) (before : Place) (left : ℕ)
    (now : Place) : Type 0 where
  pub whole : (end : List (Result T FaultAt)) → WalksTo meaning left now end → WalksTo meaning count before end

-- the result of one call of `next` while the iterator is not over
pub record Gives {T : Type 0} (meaning : Place → Outcome T → Type 0) (s : Items) (given : Option (Result T Error))
    (t : Items) : Type 0 where
  pub item : s.ended ≡ false → 0 < s.left → ReadsItem meaning s given t
  pub last : s.ended ≡ false → s.left ≡ 0 → ReadsEnd s given t
