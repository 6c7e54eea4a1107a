use Rattle.wasm_dumper.proofs.WalkSteps.{finishes}
use Rattle.wasm_dumper.proofs.walks.StepsVisitorGlobal.finish.Goals as goal

pub returns : goal.returns
returns g c = record {
  finishes = finishes g.W.Walker.saw g.W.Walker.why g.W.Walker.IS_DEEP (λ v. v.counts) c.args.self.now c.args.walker.now c.keep_on.result
      c.keep_on.ensures.ok c.keep_on.ensures.err;
}
