use Rattle.wasm_encode.proofs.LinkingBack.{comdat_encodes}
use Rattle.wasm_encode.proofs.linking.ComdatEncode.reads_back.Goals as goal

pub returns : goal.returns
returns c = λ features allowed. comdat_encodes c.args.self.now features c.requires
