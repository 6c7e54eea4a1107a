use Rattle.wasm_encode.proofs.NamingsBack.{module_name_back}
use Rattle.wasm_encode.proofs.namings.module_name_reads_back.Goals as goal

pub returns : goal.returns
returns c = λ features offset. module_name_back c.args.name.now features offset c.requires
