use Rattle.std.proofs.Common.{sym, arith}
use Rattle.std.proofs.lemmas.Option.{slice_get_past}
use Rattle.wasm_custom.specs.Reloc.{types}
use Rattle.wasm_custom.proofs.reloc.type_numbered.Goals as goal

pub returns-in_default : goal.returns-in_default
returns-in_default c = sym (slice_get_past types c.args.number (omega arith))
