use Rattle.wasm_encode.proofs.LinkingBack.{init_function_encodes}
use Rattle.wasm_encode.proofs.linking.InitFuncEncode.reads_back.Goals as goal

pub returns : goal.returns
returns c = λ features allowed. init_function_encodes c.args.self.now features c.requires
