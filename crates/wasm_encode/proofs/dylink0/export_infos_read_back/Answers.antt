use Rattle.wasm_encode.proofs.Dylink0Back.{export_infos_back}
use Rattle.wasm_encode.proofs.dylink0.export_infos_read_back.Goals as goal

pub returns : goal.returns
returns c = λ features offset. export_infos_back c.args.infos.now features offset c.requires
