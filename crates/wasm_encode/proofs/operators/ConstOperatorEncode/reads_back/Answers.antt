use Rattle.wasm_encode.proofs.OperatorsBack.{operator_encodes}
use Rattle.wasm_encode.proofs.operators.ConstOperatorEncode.reads_back.Goals as goal

pub returns : goal.returns
returns c = λ features allowed. operator_encodes c.args.self.now features c.requires
