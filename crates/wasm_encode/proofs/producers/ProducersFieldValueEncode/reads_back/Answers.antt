use Rattle.wasm_encode.proofs.ProducersBack.{value_encodes}
use Rattle.wasm_encode.proofs.producers.ProducersFieldValueEncode.reads_back.Goals as goal

pub returns : goal.returns
returns c = λ features allowed. value_encodes c.args.self.now features c.requires
