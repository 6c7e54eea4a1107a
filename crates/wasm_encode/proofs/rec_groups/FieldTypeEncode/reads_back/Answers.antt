use Rattle.wasm_encode.proofs.GroupsBack.{field_encodes}
use Rattle.wasm_encode.proofs.rec_groups.FieldTypeEncode.reads_back.Goals as goal

pub returns : goal.returns
returns c = λ features allowed. field_encodes c.args.self.now features c.requires
