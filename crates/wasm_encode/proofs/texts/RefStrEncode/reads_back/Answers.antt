use Rattle.wasm_encode.proofs.NamesBack.{name_encodes}
use Rattle.wasm_encode.proofs.texts.RefStrEncode.reads_back.Goals as goal

pub returns : goal.returns
returns c = λ features allowed. name_encodes c.args.self.now features c.requires
