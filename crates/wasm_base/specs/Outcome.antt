-- What reading from a place comes to.
use Rattle.std.specs.Prelude.{◌≡◌, Result, Ok, Err}
use Rattle.wasm_base.specs.FaultAt.{FaultAt, fault_at}
use Rattle.wasm_base.specs.Window.{Window, Place, place}
use Rattle.wasm_base.specs.declared.error.Error.{Error}

-- | a value and the place after it, or a fault [`Gives`]
-- a value and the place after its bytes, or the first fault
abbrev pub Outcome : Type 0 → Type 0
Outcome A = Result (A × Place) FaultAt

-- one reading after the other
infixl 10 ◌>>=◌
abbrev pub ◌>>=◌ : {A B : Type 0} → Result A FaultAt → (A → Result B FaultAt) → Result B FaultAt
(Ok x) >>= f = f x
(Err e) >>= f = Err e

-- What a call returned, and the place that it left, is this outcome; view is what counts of the value.
abbrev pub Gives : {X Y : Type 0} → (X → Y) → Result X Error → Place → Outcome Y → Type 0
Gives view (Ok x) after outcome = outcome ≡ Ok (view x, after)
Gives view (Err e) after outcome = outcome ≡ Err (fault_at e)

-- What a call of a reader returned, from one window to another, is the outcome of this reading; view is what counts of
-- the value.
abbrev pub GivesBy : {X Y : Type 0} → (X → Y) → Result X Error → (old new : Window) → (Place → Outcome Y) → Type 0
GivesBy view result old new reading = Gives view result (place new) (reading (place old))

-- What a call returned is this value, or this fault; view is what counts of the value.
abbrev pub GivesResult : {X Y : Type 0} → (X → Y) → Result X Error → Result Y FaultAt → Type 0
GivesResult view (Ok x) outcome = outcome ≡ Ok (view x)
GivesResult view (Err e) outcome = outcome ≡ Err (fault_at e)
