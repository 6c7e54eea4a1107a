use Rattle.wasm_encode.proofs.ProducersBack.{feature_encodes}
use Rattle.wasm_encode.proofs.target_features.TargetFeatureEncode.reads_back.Goals as goal

pub returns : goal.returns
returns c = λ features allowed. feature_encodes c.args.self.now features c.requires
