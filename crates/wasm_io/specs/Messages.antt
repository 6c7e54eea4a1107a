-- The messages of failed runs.
use Rattle.std.specs.Prelude.{◌≡◌, ℕ, false, List, take, codes}
use Rattle.std.specs.Io.KnownBytes.{Appends}
use Rattle.wasm_io.specs.Calls.{Device}
use Rattle.wasm_io.specs.declared.devices.ListError.{ListError}
use Rattle.wasm_io.specs.declared.devices.ListError.TheVariants.{Input, Output, Memory}

-- the message of a run that failed
abbrev pub complaint_of : ListError → List ℕ
complaint_of Input = codes "input failed\n"
complaint_of Output = codes "output failed\n"
complaint_of Memory = codes "out of memory\n"

-- A prefix of the message was written to the device, and all of it unless the device failed.
pub record Says (device : Device) (message : List ℕ) : Type 0 where
  pub some : (n : ℕ) × Appends device.before device.after (take n message)
  pub all : device.has_failed ≡ false → Appends device.before device.after message
