-- What the code finds of a number.
use Rattle.std.specs.Prelude.{◌≡◌, ℕ, ◌<◌, ◌≤◌, ◌⊎◌}
use Rattle.wasm_base.specs.Septets.{sum_bound}
use Rattle.wasm_base.specs.Number.{Number, read, bad, short}
use Rattle.wasm_base.specs.declared.fault.Fault.{Fault}
use Rattle.wasm_base.specs.declared.fault.Fault.TheVariants.{NumberTooLong, NumberTooLarge}
use Rattle.wasm_base.specs.declared.fault.NumberKind.{NumberKind}
use Rattle.wasm_base.specs.declared.number.Found.{Found}
use Rattle.wasm_base.specs.declared.number.Found.TheVariants.{Read, Bad, Short}

-- the number that was found
abbrev pub number_of : Found → Number
number_of (Read sum used) = read sum used
number_of (Bad fault place) = bad fault place
number_of Short = short

-- A fault is one of a number of this kind.
abbrev pub IsOfNumber : NumberKind → Fault → Type 0
IsOfNumber kind fault = (fault ≡ NumberTooLong kind) ⊎ (fault ≡ NumberTooLarge kind)

-- It lies within the first n bytes; its sum is as large as its kind allows, or its fault is one of numbers.
abbrev pub IsWithin : NumberKind → Found → ℕ → Type 0
IsWithin kind (Read sum used) n = (0 < used) × (used ≤ n) × (sum < sum_bound kind)
IsWithin kind (Bad fault place) n = (place < n) × IsOfNumber kind fault
IsWithin kind Short n = Unit {0}
