use Rattle.wasm_encode.proofs.Dylink0Back.{export_info_encodes}
use Rattle.wasm_encode.proofs.dylink0.ExportInfoEncode.reads_back.Goals as goal

pub returns : goal.returns
returns c = λ features allowed. export_info_encodes c.args.self.now features c.requires
