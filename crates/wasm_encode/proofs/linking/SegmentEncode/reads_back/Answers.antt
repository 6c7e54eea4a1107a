use Rattle.wasm_encode.proofs.LinkingBack.{segment_encodes}
use Rattle.wasm_encode.proofs.linking.SegmentEncode.reads_back.Goals as goal

pub returns : goal.returns
returns c = λ features allowed. segment_encodes c.args.self.now features c.requires
