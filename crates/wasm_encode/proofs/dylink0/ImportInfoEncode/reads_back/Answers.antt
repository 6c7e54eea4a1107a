use Rattle.wasm_encode.proofs.Dylink0Back.{import_info_encodes}
use Rattle.wasm_encode.proofs.dylink0.ImportInfoEncode.reads_back.Goals as goal

pub returns : goal.returns
returns c = λ features allowed. import_info_encodes c.args.self.now features c.requires
