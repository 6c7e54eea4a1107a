use Rattle.wasm_encode.proofs.DataBack.{data_encodes}
use Rattle.wasm_encode.proofs.data.DataEncode.reads_back.Goals as goal

pub returns : goal.returns
returns c = λ features allowed. data_encodes c.args.self.now features c.requires
