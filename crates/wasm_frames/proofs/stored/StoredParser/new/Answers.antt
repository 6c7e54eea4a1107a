use Rattle.std.proofs.Common.{◌∙◌, rules}
use Rattle.wasm_base.proofs.EveryFeature.{every_feature}
use Rattle.wasm_frames.proofs.stored.StoredParser.new.Goals as goal

pub returns : goal.returns
returns c = let all = c.all.ensures tt ∙ every_feature in search rules
