-- Meanings that say little.
-- | item types whose meaning says little
use Rattle.std.specs.Prelude.{◌≡◌, ◌<◌, length, Ok, Err}
use Rattle.wasm_base.specs.FaultAt.{at_offset}
use Rattle.wasm_base.specs.Outcome.{Outcome}
use Rattle.wasm_base.specs.Window.{Place, advanced}
use Rattle.wasm_base.specs.declared.fault.Fault.TheVariants.{UnexpectedEof}
use Rattle.wasm_examples.specs.declared.careless.AnyByte.{AnyByte}
use Rattle.wasm_examples.specs.declared.careless.Nothing.{Nothing}

-- nothing is read
abbrev pub nothing_at : Place → Outcome Nothing
nothing_at p = Ok (record {}, p)

-- A byte is taken if one remains, and any value may result.
abbrev pub TakesOneByte : Place → Outcome AnyByte → Type 0
TakesOneByte p (Ok x) = (0 < length p.rest) × (x.1 ≡ advanced 1 p)
TakesOneByte p (Err e) = (length p.rest ≡ 0) × (e ≡ at_offset UnexpectedEof p.offset)
