use Rattle.wasm_encode.proofs.Dylink0Back.{import_infos_back}
use Rattle.wasm_encode.proofs.dylink0.import_infos_read_back.Goals as goal

pub returns : goal.returns
returns c = λ features offset. import_infos_back c.args.infos.now features offset c.requires
