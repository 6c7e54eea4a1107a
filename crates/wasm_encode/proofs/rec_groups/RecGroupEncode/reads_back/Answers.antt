use Rattle.wasm_encode.proofs.GroupsBack.{group_encodes}
use Rattle.wasm_encode.proofs.rec_groups.RecGroupEncode.reads_back.Goals as goal

pub returns : goal.returns
returns c = λ features allowed. group_encodes c.args.self.now features c.requires
