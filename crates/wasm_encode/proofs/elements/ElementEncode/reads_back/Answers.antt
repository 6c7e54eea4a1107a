use Rattle.wasm_encode.proofs.ElementsBack.{element_encodes}
use Rattle.wasm_encode.proofs.elements.ElementEncode.reads_back.Goals as goal

pub returns : goal.returns
returns c = λ features allowed. element_encodes c.args.self.now features c.requires
