-- What is known of an error besides its fault: that it is not out of memory, and how many missing bytes it hints at.
-- The meaning of an item is about faults without hints, so a hint is a clause of each read that makes one.
use Rattle.std.specs.Prelude.{◌≡◌, ℕ, ◌-◌, Bool, true, false, length, Option, Some, None, Result, Ok, Err}
use Rattle.wasm_base.specs.FaultAt.{fault_at, hint_of}
use Rattle.wasm_base.specs.Name.{bytes_at}
use Rattle.wasm_base.specs.Number.{unsigned_at}
use Rattle.wasm_base.specs.Outcome.{Outcome}
use Rattle.wasm_base.specs.Window.{Place}
use Rattle.wasm_base.specs.declared.error.Error.{Error}
use Rattle.wasm_base.specs.declared.fault.Fault.{Fault}
use Rattle.wasm_base.specs.declared.fault.Fault.TheVariants.{OutOfMemory, UnexpectedEof}
use Rattle.wasm_base.specs.declared.fault.NumberKind.TheVariants.{VarU32}

-- whether a fault is that an allocation failed
abbrev pub is_out_of_memory : Fault → Bool
is_out_of_memory OutOfMemory = true
is_out_of_memory fault = false

-- | an error is not out of memory; it hints at *n* missing bytes if the input is truncated, and otherwise at nothing;
--   or at nothing at all [`Hints`, `HintsNothing`]
-- What a call returned is not out of memory.
abbrev pub NotOutOfMemory : {X : Type 0} → Result X Error → Type 0
NotOutOfMemory (Ok x) = Unit {0}
NotOutOfMemory (Err e) = is_out_of_memory (fault_at e).fault ≡ false

-- what an error hints at: the number of missing bytes if bytes are missing, nothing at any other fault
abbrev pub hint_at : ℕ → Fault → Option ℕ
hint_at missing UnexpectedEof = Some missing
hint_at missing fault = None

-- An error that a call returned hints at this many missing bytes if bytes are missing, and otherwise at nothing.
abbrev pub Hints : {X : Type 0} → ℕ → Result X Error → Type 0
Hints missing (Ok x) = Unit {0}
Hints missing (Err e) = hint_of e ≡ hint_at missing (fault_at e).fault

-- An error that a call returned hints at nothing.
abbrev pub HintsNothing : {X : Type 0} → Result X Error → Type 0
HintsNothing (Ok x) = Unit {0}
HintsNothing (Err e) = hint_of e ≡ None

-- | how many bytes are missing: of *n*, of a size and as many bytes, of a header [`missing_of_sized`,
--   `missing_of_header`]
-- how many of n bytes are missing at a place
abbrev pub missing_at : ℕ → Place → ℕ
missing_at n p = n - length p.rest

-- how many bytes are missing for two reads in turn: those of the first if it fails, or those of the second after it
abbrev pub missing_in_turn : {A : Type 0} → ℕ → (A × Place → ℕ) → Outcome A → ℕ
missing_in_turn first second (Ok x) = second x
missing_in_turn first second (Err e) = first

-- how many bytes are missing for a size and that many bytes: one if the size fails, or those missing after it
abbrev pub missing_of_sized : Place → ℕ
missing_of_sized p = missing_in_turn 1 (λ size. missing_at size.0 size.1) (unsigned_at VarU32 p)

-- how many bytes are missing of the first eight of a stream: of the four of the magic, or of the four after it
abbrev pub missing_of_header : Place → ℕ
missing_of_header p = missing_in_turn (missing_at 4 p) (λ magic. missing_at 4 magic.1) (bytes_at 4 p)
