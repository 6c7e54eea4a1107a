use Rattle.wasm_encode.proofs.ProducersBack.{field_encodes}
use Rattle.wasm_encode.proofs.producers.ProducersFieldEncode.reads_back.Goals as goal

pub returns : goal.returns
returns c = λ features allowed. field_encodes c.args.self.now features c.requires
