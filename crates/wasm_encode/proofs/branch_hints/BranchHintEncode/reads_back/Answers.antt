use Rattle.wasm_encode.proofs.BranchHintsBack.{hint_encodes}
use Rattle.wasm_encode.proofs.branch_hints.BranchHintEncode.reads_back.Goals as goal

pub returns : goal.returns
returns c = λ features allowed. hint_encodes c.args.self.now features c.requires
