use Rattle.wasm_encode.proofs.CoreDumpsBack.{value_encodes}
use Rattle.wasm_encode.proofs.core_dumps.CoreDumpValueEncode.reads_back.Goals as goal

pub returns : goal.returns
returns c = λ features allowed. value_encodes c.args.self.now features c.requires
