use Rattle.wasm_encode.proofs.GroupsBack.{storage_encodes}
use Rattle.wasm_encode.proofs.rec_groups.StorageTypeEncode.reads_back.Goals as goal

pub returns : goal.returns
returns c = λ features allowed. storage_encodes c.args.self.now features c.requires
