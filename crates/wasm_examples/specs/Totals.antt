-- The sum of counted numbers.
-- | the sum of a section's numbers
use Rattle.std.specs.Prelude.{ℕ, ◌+◌, Result}
use Rattle.wasm_base.specs.FaultAt.{FaultAt}
use Rattle.wasm_base.specs.Number.{unsigned_at}
use Rattle.wasm_base.specs.Window.{Place}
use Rattle.wasm_base.specs.declared.fault.NumberKind.TheVariants.{VarU32}
use Rattle.wasm_examples.specs.Folding.{items_at, with_each}

-- the sum of this many numbers from a place on, if nothing remains after them; or the first fault
abbrev pub total_at : ℕ → Place → Result ℕ FaultAt
total_at count p = with_each (λ sum n. sum + n) 0 (items_at (unsigned_at VarU32) count p)
