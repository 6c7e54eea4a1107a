use Rattle.wasm_encode.proofs.Dylink0Back.{mem_info_back}
use Rattle.wasm_encode.proofs.dylink0.mem_info_reads_back.Goals as goal

pub returns : goal.returns
returns c = λ features offset. mem_info_back c.args.info.now features offset c.requires
