-- Numbers in LEB128.
-- | items as plain numbers [`Instructions`, `Values`, `Kinds`, `Imports`, `Exports`, `Segments`, `Names`,
--   `Producers`, `Hints`, `Dylink`, `Linking`, `Symbols`, `Relocations`, `Coredumps`]
use Rattle.std.specs.Prelude.{ℕ, ◌-◌, ℤ, pos, Ok, Err}
use Rattle.wasm_base.specs.Outcome.{Outcome}
use Rattle.wasm_base.specs.Window.{Place}
use Rattle.wasm_c_items.specs.Faults.{no_fault, plain_fault}
use Rattle.wasm_c_items.specs.declared.numbers.PlainNumber.{PlainNumber}
use Rattle.wasm_c_items.specs.declared.numbers.PlainSigned.{PlainSigned}

-- a number without a sign
abbrev pub plain_number : (from : ℕ) → Place → Outcome ℕ → PlainNumber
plain_number from p (Ok x) = record { fault = no_fault; consumed = x.1.offset - p.offset; value = x.0 }
plain_number from p (Err f) = record { fault = plain_fault f; consumed = 0; value = 0 }

-- a number with a sign
abbrev pub plain_signed : (from : ℕ) → Place → Outcome ℤ → PlainSigned
plain_signed from p (Ok x) = record { fault = no_fault; consumed = x.1.offset - p.offset; value = x.0 }
plain_signed from p (Err f) = record { fault = plain_fault f; consumed = 0; value = pos 0 }
