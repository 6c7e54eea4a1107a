use Rattle.wasm_examples.proofs.Common.{feature_bits}
use Rattle.wasm_examples.proofs.Collected.{weaker, passed_on}
use Rattle.wasm_examples.proofs.compiling.compile_pieces.Goals as goal

pub returns : goal.returns
returns g c = weaker (passed_on g.C.Compiler.compiles (λ v. v.0) c.args.compiler.now c.visit_pieces.new.visitor) c.args.pieces.now
    (feature_bits c.args.features) c.visit_pieces.result c.visit_pieces.ensures
