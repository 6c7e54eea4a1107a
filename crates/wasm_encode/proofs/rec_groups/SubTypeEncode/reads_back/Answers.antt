use Rattle.wasm_encode.proofs.GroupsBack.{subtype_encodes}
use Rattle.wasm_encode.proofs.rec_groups.SubTypeEncode.reads_back.Goals as goal

pub returns : goal.returns
returns c = λ features allowed. subtype_encodes c.args.self.now features c.requires
