use Rattle.wasm_encode.proofs.Dylink0Back.{mem_info_encodes}
use Rattle.wasm_encode.proofs.dylink0.MemInfoEncode.reads_back.Goals as goal

pub returns : goal.returns
returns c = λ features allowed. mem_info_encodes c.args.self.now features c.requires
