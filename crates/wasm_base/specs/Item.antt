-- What an item type means, and how meanings are put together.
use Rattle.std.specs.Prelude.{◌≡◌, ◌↔◌, ℕ, zero, suc, ◌-◌, ◌⊎◌, Bool, true, false, List, Some, Result, Ok, Err}
use Rattle.wasm_base.specs.FaultAt.{fault_at, at_offset}
use Rattle.wasm_base.specs.Name.{byte_at, name_limit, text_at}
use Rattle.wasm_base.specs.Outcome.{Outcome, ◌>>=◌}
use Rattle.wasm_base.specs.Window.{Place}
use Rattle.wasm_base.specs.declared.error.Error.{Error}
use Rattle.wasm_base.specs.declared.fault.Fault.TheVariants.{InvalidBool}

-- | what an item type means: the outcomes that its bytes allow at a place
-- What a call returned, and the place that it left, is an outcome that the meaning allows.
abbrev pub Means : {X : Type 0} → (Place → Outcome X → Type 0) → Place → Result X Error → Place → Type 0
Means meaning before (Ok x) after = meaning before (Ok (x, after))
Means meaning before (Err e) after = meaning before (Err (fault_at e))

-- the outcome, where view is what counts of a value
abbrev pub outcome_map : {X Y : Type 0} → (X → Y) → Outcome X → Outcome Y
outcome_map view (Ok x) = Ok (view x.0, x.1)
outcome_map view (Err e) = Err e

-- the one outcome of a reading, where view is what counts of a value
abbrev pub ReadsAs : {X Y : Type 0} → (X → Y) → (Place → Outcome Y) → Place → Outcome X → Type 0
ReadsAs view reading before outcome = reading before ≡ outcome_map view outcome

-- a name, where view is its text
abbrev pub ReadsName : {X : Type 0} → (X → List ℕ) → Place → Outcome X → Type 0
ReadsName view = ReadsAs view (text_at (Some name_limit))

-- one item and then another
abbrev pub BothInTurn : {A B : Type 0} → (Place → Outcome A → Type 0) → (Place → Outcome B → Type 0) → Place
    → Outcome (A × B) → Type 0
BothInTurn first second before (Ok x) = (between : Place) × first before (Ok (x.0.0, between))
    × second between (Ok (x.0.1, x.1))
BothInTurn {A} first second before (Err e) = first before (Err e)
    ⊎ ((a : A) × (between : Place) × first before (Ok (a, between)) × second between (Err e))

abbrev pub truth_of : ℕ × Place → ℕ → Outcome Bool
truth_of byte zero = Ok (false, byte.1)
truth_of byte (suc zero) = Ok (true, byte.1)
truth_of byte (suc (suc n)) = Err (at_offset InvalidBool (byte.1.offset - 1))

-- | `bool`: a byte, 0 or 1; a name; two items in order [`ReadsName`, `BothInTurn`] <Values; this project>
-- a byte that is 0 or 1
unfoldable pub bool_at : Place → Outcome Bool
bool_at p = do
  byte ← byte_at p
  truth_of byte byte.0

-- A meaning allows one outcome at each place, the value and all.
pub record Determines {T : Type 0} (meaning : Place → Outcome T → Type 0) : Type 0 where
  pub one : (p : Place) (a b : Outcome T) → meaning p a → meaning p b → a ≡ b

-- Wherever a meaning allows one of two values, it allows the other: it knows no difference between them. References
-- to the same text are alike in this way, though they need not be equal.
abbrev pub Alike : {T : Type 0} → (Place → Outcome T → Type 0) → T → T → Type 0
Alike meaning x y = (p q : Place) → meaning p (Ok (x, q)) ↔ meaning p (Ok (y, q))

-- the same fault, or values that are alike and the same place after them
abbrev pub SameOutcome : {T : Type 0} → (Place → Outcome T → Type 0) → Outcome T → Outcome T → Type 0
SameOutcome meaning (Ok x) (Ok y) = Alike meaning x.0 y.0 × (x.1 ≡ y.1)
SameOutcome meaning (Ok x) (Err e) = ⊥
SameOutcome meaning (Err e) (Ok y) = ⊥
SameOutcome meaning (Err e) (Err f) = e ≡ f

-- | a meaning that allows one outcome, as far as it can see a value; one that determines the value [`Determines`]
-- A meaning allows one outcome at each place, as far as it knows a difference.
pub record AllowsOne {T : Type 0} (meaning : Place → Outcome T → Type 0) : Type 0 where
  pub one : (p : Place) (a b : Outcome T) → meaning p a → meaning p b → SameOutcome meaning a b
