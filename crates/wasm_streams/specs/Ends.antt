-- What the end of a listing says.
use Rattle.std.specs.Prelude.{Option, Some, None}
use Rattle.wasm_base.specs.FaultAt.{FaultAt, fault_at}
use Rattle.wasm_streams.specs.declared.turns.Ended.{Ended}
use Rattle.wasm_streams.specs.declared.turns.Ended.TheVariants.{End, Fault}

-- | the fault at which a listing ended
-- the fault at which a listing ended, if it ended at one: the fault, its offset and its number
abbrev pub fault_at_end : Ended → Option FaultAt
fault_at_end End = None
fault_at_end (Fault e) = Some (fault_at e)
