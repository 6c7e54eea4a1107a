use Rattle.wasm_encode.proofs.ExpressionsBack.{operators_back}
use Rattle.wasm_encode.proofs.expressions.expression_reads_back.Goals as goal

pub returns : goal.returns
returns c = λ features offset. operators_back c.args.operators.now features offset c.requires
