-- What a call does to a device.
use Rattle.std.specs.Prelude.{ℕ, Bool, true, List, Option, Result, Ok, Err}
use Rattle.wasm_io.specs.declared.devices.ListError.{ListError}
use Rattle.wasm_io.specs.declared.devices.ListError.TheVariants.{Input, Output, Memory}
use Rattle.wasm_io.specs.declared.devices.sink.WriteSink.{WriteSink}

-- the bytes that a source has left, or that a sink has taken, where these are known, before a call and after it
pub record Change : Type 0 where
  pub before : Option (List ℕ)
  pub after : Option (List ℕ)

abbrev pub from_to : (before after : Option (List ℕ)) → Change
from_to before after = record { before = before; after = after }

abbrev pub change_of : {D : Type 0} → (bytes : D → Option (List ℕ)) (old new : D) → Change
change_of bytes old new = from_to (bytes old) (bytes new)

-- the same with whether it has failed
pub record Device : Type 0 where
  pub before : Option (List ℕ)
  pub after : Option (List ℕ)
  pub had_failed : Bool
  pub has_failed : Bool

abbrev pub device_of : {D : Type 0} → (bytes : D → Option (List ℕ)) (failed : D → Bool) (old new : D) → Device
device_of bytes failed old new =
    record { before = bytes old; after = bytes new; had_failed = failed old; has_failed = failed new }

-- a sink over a writer that has these contents
abbrev pub writer_device : {W : Type 0} → (contents : W → Option (List ℕ)) (old new : WriteSink W) → Device
writer_device contents old new = device_of (λ s. contents s.writer) (λ s. s.failed) old new

abbrev pub bytes_of : Device → Change
bytes_of device = from_to device.before device.after

-- whether a device has failed after a call
abbrev pub input_failed : {A : Type 0} → Result A ListError → Bool → Bool
input_failed (Err Input) before = true
input_failed (Err Output) before = before
input_failed (Err Memory) before = before
input_failed (Ok a) before = before

abbrev pub output_failed : {A : Type 0} → Result A ListError → Bool → Bool
output_failed (Err Output) before = true
output_failed (Err Input) before = before
output_failed (Err Memory) before = before
output_failed (Ok a) before = before
