-- What an error says: the fault, its offset in the whole stream, and the number that belongs to it.
use Rattle.std.specs.Prelude.{ℕ, Option, Some, None, if◌then◌else◌}
use Rattle.wasm_base.specs.declared.error.Error.{Error}
use Rattle.wasm_base.specs.declared.fault.Fault.{Fault}

-- | what an error says: fault, offset, number; not its hint [`fault_at`]
pub record FaultAt : Type 0 where
  pub fault : Fault
  pub offset : ℕ
  pub number : Option ℕ

-- the number that belongs to an error, if it has one
abbrev pub number_of : Error → Option ℕ
number_of e = if e.has_number then Some e.number else None

-- all of an error but its hint
abbrev pub fault_at : Error → FaultAt
fault_at e = record { fault = e.fault; offset = e.offset; number = number_of e }

-- a fault at an offset, with no number
abbrev pub at_offset : Fault → ℕ → FaultAt
at_offset fault offset = record { fault = fault; offset = offset; number = None }

-- how many more bytes are needed, if an error says so
abbrev pub hint_of : Error → Option ℕ
hint_of e = if e.has_hint then Some e.hint else None
