use Rattle.wasm_encode.proofs.BundlesBack.{bundle_encodes}
use Rattle.wasm_encode.proofs.bundles.ImportsEncode.reads_back.Goals as goal

pub returns : goal.returns
returns c = λ features allowed. bundle_encodes c.args.self.now features c.requires allowed
