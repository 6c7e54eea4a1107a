-- What a device over memory has left.
use Rattle.std.specs.Prelude.{ℕ, ◌-◌, vec_len}
use Rattle.wasm_io.specs.declared.devices.sink.BoundedSink.{BoundedSink}

-- | how many bytes a sink of bounded size has room for
abbrev pub room_left : {A : Type 0} → BoundedSink A → ℕ
room_left sink = sink.size - vec_len sink.bytes
