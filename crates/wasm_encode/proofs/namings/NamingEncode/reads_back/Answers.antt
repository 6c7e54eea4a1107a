use Rattle.wasm_encode.proofs.NamingsBack.{naming_encodes}
use Rattle.wasm_encode.proofs.namings.NamingEncode.reads_back.Goals as goal

pub returns : goal.returns
returns c = λ features allowed. naming_encodes c.args.self.now features c.requires
