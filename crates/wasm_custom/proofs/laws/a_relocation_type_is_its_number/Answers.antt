use Rattle.wasm_custom.proofs.Numbered.{type_of_its_number}
use Rattle.wasm_custom.proofs.laws.a_relocation_type_is_its_number.Goals as goal

pub returns-clause-back : goal.returns-clause-back
returns-clause-back c = type_of_its_number c.args.ty c.cast-number.result c.try_from.result c.cast-number.ensures c.try_from.ensures
