use Rattle.wasm_encode.proofs.NamingsBack.{indirect_encodes}
use Rattle.wasm_encode.proofs.namings.IndirectNamingEncode.reads_back.Goals as goal

pub returns : goal.returns
returns c = λ features allowed. indirect_encodes c.args.self.now features c.requires
