use Rattle.wasm_encode.proofs.CoreDumpsBack.{instance_encodes}
use Rattle.wasm_encode.proofs.core_dumps.CoreDumpInstanceEncode.reads_back.Goals as goal

pub returns : goal.returns
returns g c = λ features allowed. instance_encodes c.args.self.now features c.requires
