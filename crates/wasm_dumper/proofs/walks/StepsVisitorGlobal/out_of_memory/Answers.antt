use Rattle.wasm_dumper.proofs.WalkSteps.{gives_out}
use Rattle.wasm_dumper.proofs.walks.StepsVisitorGlobal.out_of_memory.Goals as goal

pub returns : goal.returns
returns g c = record {
  gives = gives_out g.W.Walker.saw g.W.Walker.why g.W.Walker.IS_DEEP (λ v. v.counts) c.args.self.now c.args._walker.now;
}
