use Rattle.wasm_encode.proofs.CodeBack.{body_encodes}
use Rattle.wasm_encode.proofs.code.FunctionBodyEncode.reads_back.Goals as goal

pub returns : goal.returns
returns c = λ features allowed. body_encodes c.args.self.now features c.requires
