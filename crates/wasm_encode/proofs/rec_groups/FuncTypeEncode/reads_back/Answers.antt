use Rattle.wasm_encode.proofs.GroupsBack.{func_encodes}
use Rattle.wasm_encode.proofs.rec_groups.FuncTypeEncode.reads_back.Goals as goal

pub returns : goal.returns
returns c = λ features allowed. func_encodes c.args.self.now features c.requires
