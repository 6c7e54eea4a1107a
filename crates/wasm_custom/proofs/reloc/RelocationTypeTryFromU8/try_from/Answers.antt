use Rattle.wasm_custom.proofs.Numbered.{numbered}
use Rattle.wasm_custom.proofs.reloc.RelocationTypeTryFromU8.try_from.Goals as goal

pub returns : goal.returns
returns c = numbered c.args.number c.type_numbered.result c.ok_or.result c.type_numbered.ensures c.ok_or.ensures.value
