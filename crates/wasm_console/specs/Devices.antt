-- Calls that leave a device alone, and calls that follow one another.
use Rattle.std.specs.Prelude.{◌≡◌}
use Rattle.wasm_io.specs.Calls.{Device}

-- | a device was left alone
-- the call left the device alone
pub record IsUntouched (device : Device) : Type 0 where
  pub bytes : device.after ≡ device.before
  pub failed : device.has_failed ≡ device.had_failed

-- a device over two calls, one after the other
abbrev pub over : Device → Device → Device
over first second = record {
  before = first.before;
  after = second.after;
  had_failed = first.had_failed;
  has_failed = second.has_failed;
}

-- the second call begins where the first one ended
pub record Follows (first second : Device) : Type 0 where
  pub bytes : second.before ≡ first.after
  pub failed : second.had_failed ≡ first.has_failed
