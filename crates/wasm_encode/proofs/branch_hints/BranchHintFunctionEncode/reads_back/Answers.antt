use Rattle.wasm_encode.proofs.BranchHintsBack.{function_hints_encode}
use Rattle.wasm_encode.proofs.branch_hints.BranchHintFunctionEncode.reads_back.Goals as goal

pub returns : goal.returns
returns c = λ features allowed. function_hints_encode c.args.self.now features c.requires
