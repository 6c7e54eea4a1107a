-- The end of data.
use Rattle.std.specs.Prelude.{◌==◌, length, Result, Ok, Err, if◌then◌else◌}
use Rattle.wasm_base.specs.FaultAt.{FaultAt, at_offset}
use Rattle.wasm_base.specs.Window.{Place}
use Rattle.wasm_base.specs.declared.fault.Fault.{Fault}

-- | the end of data: trailing bytes are a fault at the first of them
unfoldable pub end_at : Fault → Place → Result (Unit {0}) FaultAt
end_at fault p = if length p.rest == 0 then Ok tt else Err (at_offset fault p.offset)
