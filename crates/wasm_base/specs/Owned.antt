-- Items that own lists, for which memory may be refused. Core specification, Binary format, Conventions, Lists.
use Rattle.std.specs.Prelude.{◌≡◌, ℕ, zero, suc, ◌⊎◌, List, [], ◌∷◌, Result, Ok, Err}
use Rattle.wasm_base.specs.FaultAt.{FaultAt, fault_at, at_offset}
use Rattle.wasm_base.specs.Number.{unsigned_at}
use Rattle.wasm_base.specs.Outcome.{Outcome, ◌>>=◌}
use Rattle.wasm_base.specs.Window.{Place}
use Rattle.wasm_base.specs.declared.error.Error.{Error}
use Rattle.wasm_base.specs.declared.fault.Fault.TheVariants.{OutOfMemory}
use Rattle.wasm_base.specs.declared.fault.NumberKind.TheVariants.{VarU32}

-- | what an error says if an allocation failed; an outcome that a meaning allows, or that [`UnlessMemory`,
--   `GivesUnlessMemory`]
-- what an error says when an allocation fails
abbrev pub out_of_memory : FaultAt
out_of_memory = at_offset OutOfMemory 0

-- what a meaning allows, or out of memory in place of any outcome
abbrev pub UnlessMemory : {A : Type 0} → (Place → Outcome A → Type 0) → Place → Outcome A → Type 0
UnlessMemory meaning before (Ok x) = meaning before (Ok x)
UnlessMemory meaning before (Err e) = (e ≡ out_of_memory) ⊎ meaning before (Err e)

-- What a call returned, and the place that it left, is an outcome that the meaning allows; view is what counts of the
-- value.
abbrev pub MeansAs : {X Y : Type 0} → (X → Y) → (Place → Outcome Y → Type 0) → Place → Result X Error → Place → Type 0
MeansAs view meaning before (Ok x) after = meaning before (Ok (view x, after))
MeansAs view meaning before (Err e) after = meaning before (Err (fault_at e))

-- What a call returned, and the place that it left, is this outcome, or an allocation failed; view is what counts of
-- the value.
abbrev pub GivesUnlessMemory : {X Y : Type 0} → (X → Y) → Result X Error → Place → Outcome Y → Type 0
GivesUnlessMemory view (Ok x) after outcome = outcome ≡ Ok (view x, after)
GivesUnlessMemory view (Err e) after outcome = (fault_at e ≡ out_of_memory) ⊎ (outcome ≡ Err (fault_at e))

-- What a call returned is this value or fault, or an allocation failed; view is what counts of the value.
abbrev pub GivesResultUnlessMemory : {X Y : Type 0} → (X → Y) → Result X Error → Result Y FaultAt → Type 0
GivesResultUnlessMemory view (Ok x) outcome = outcome ≡ Ok (view x)
GivesResultUnlessMemory view (Err e) outcome = (fault_at e ≡ out_of_memory) ⊎ (outcome ≡ Err (fault_at e))

-- | a list: a count and as many items, one after the other, up to the first fault; by a meaning, or by a function of
--   the place [`ListOf`; `in_turn`, `list_at`] <Conventions, Lists>
-- this many items, one after the other, up to the first fault
abbrev pub InTurn : {A : Type 0} → (Place → Outcome A → Type 0) → ℕ → Place → Outcome (List A) → Type 0
InTurn meaning zero p (Ok (items, q)) = (items ≡ []) × (q ≡ p)
InTurn meaning zero p (Err e) = ⊥
InTurn {A} meaning (suc count) p (Ok ([], q)) = ⊥
InTurn {A} meaning (suc count) p (Ok (x ∷ items, q)) = (between : Place) × meaning p (Ok (x, between))
    × InTurn meaning count between (Ok (items, q))
InTurn {A} meaning (suc count) p (Err e) = meaning p (Err e)
    ⊎ ((x : A) × (between : Place) × meaning p (Ok (x, between)) × InTurn meaning count between (Err e))

-- after a count, that many items; or the count's fault
abbrev pub AfterCount : {A : Type 0} → (Place → Outcome A → Type 0) → Outcome ℕ → Outcome (List A) → Type 0
AfterCount meaning (Ok count) outcome = InTurn meaning count.0 count.1 outcome
AfterCount meaning (Err e) outcome = outcome ≡ Err e

-- a list: a count, a u32, and that many items
abbrev pub ListOf : {A : Type 0} → (Place → Outcome A → Type 0) → Place → Outcome (List A) → Type 0
ListOf meaning p outcome = AfterCount meaning (unsigned_at VarU32 p) outcome

-- this many items, each read by a function of its place
abbrev pub in_turn : {A : Type 0} → (Place → Outcome A) → ℕ → Place → Outcome (List A)
in_turn reading zero p = Ok ([], p)
in_turn reading (suc count) p = do
  first ← reading p
  others ← in_turn reading count first.1
  Ok (first.0 ∷ others.0, others.1)

-- a list: a count, a u32, and that many items, each read by a function of its place
abbrev pub list_at : {A : Type 0} → (Place → Outcome A) → Place → Outcome (List A)
list_at reading p = do
  count ← unsigned_at VarU32 p
  in_turn reading count.0 count.1
