use Rattle.wasm_encode.proofs.CoreDumpsBack.{frame_encodes}
use Rattle.wasm_encode.proofs.core_dumps.CoreDumpStackFrameEncode.reads_back.Goals as goal

pub returns : goal.returns
returns g c = λ features allowed. frame_encodes c.args.self.now features c.requires
