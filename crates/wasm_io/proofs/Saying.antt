-- A message that is written as far as a device takes it.
use Rattle.std.proofs.Common.{◌≡◌, ℕ, true, List, length, take, Result, Ok, Err, OnOk, OnErr, is_ok, if◌then◌else◌, subst, sym, le_refl}
use Rattle.std.proofs.Common.{take_all}
use Rattle.std.specs.Io.KnownBytes.{Appends}
use Rattle.wasm_io.specs.Calls.{Device}
use Rattle.wasm_io.specs.Messages.{Says}
use Rattle.wasm_io.specs.declared.devices.Failed.{Failed}

-- what was written was said
pub says : (r : Result (Unit {0}) Failed) (device : Device) (message : List ℕ) → OnOk r (Appends device.before device.after message)
    → OnErr r ((n : ℕ) × Appends device.before device.after (take n message))
    → device.has_failed ≡ (if is_ok r then device.had_failed else true) → Says device message
says (Ok done) device message ok err f = record {
  some = (
    length message,
    subst (Appends device.before device.after) (sym (take_all (length message) message (le_refl (length message)))) ok,
  );
  all = λ e. ok;
}
says (Err e) device message ok err f = record { some = err; all = λ e. cc }
