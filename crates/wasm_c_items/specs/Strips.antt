-- Streams without their custom sections, as plain numbers.
use Rattle.std.specs.Prelude.{◌≡◌, ℕ, Bool, List, Result, Ok, Err}
use Rattle.wasm_base.specs.FaultAt.{fault_at}
use Rattle.wasm_base.specs.declared.error.Error.{Error}
use Rattle.wasm_edits.specs.Fates.{custom_stays}
use Rattle.wasm_edits.specs.Stripped.{StripsToFront}
use Rattle.wasm_c_items.specs.Faults.{no_fault, plain_fault}
use Rattle.wasm_c_items.specs.declared.strip.PlainStripped.{PlainStripped}

-- | a stream that was stripped, or refused, as plain numbers [`StripsPlain`]
-- how many bytes are left, or the fault
abbrev pub plain_strip : Result ℕ Error → PlainStripped
plain_strip (Ok size) = record { fault = no_fault; size = size }
plain_strip (Err e) = record { fault = plain_fault (fault_at e); size = 0 }

-- A stream was stripped in its own bytes, or refused.
pub record StripsPlain (keep_names : Bool) (stream : List ℕ) (answer : PlainStripped) (after : List ℕ) : Type 0 where
  pub result : Result ℕ Error
  pub strips : StripsToFront (custom_stays keep_names) stream result after
  pub answers : answer ≡ plain_strip result
