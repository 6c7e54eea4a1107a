use Rattle.wasm_encode.proofs.GroupsBack.{composite_encodes}
use Rattle.wasm_encode.proofs.rec_groups.CompositeTypeEncode.reads_back.Goals as goal

pub returns : goal.returns
returns c = λ features allowed. composite_encodes c.args.self.now features c.requires
