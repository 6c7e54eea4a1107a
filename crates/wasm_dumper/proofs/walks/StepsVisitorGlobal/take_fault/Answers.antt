use Rattle.wasm_dumper.proofs.Common.{refl}
use Rattle.wasm_dumper.proofs.DumpTurns.{stop_is_no_request}
use Rattle.wasm_dumper.proofs.WalkSteps.{takes}
use Rattle.wasm_dumper.proofs.walks.StepsVisitorGlobal.take_fault.Goals as goal

pub returns-clause-takes : goal.returns-clause-takes
returns-clause-takes g c = takes g.W.Walker.saw g.W.Walker.why g.W.Walker.IS_DEEP (λ v. v.counts) _ _ _ _ _
    (stop_is_no_request c.args.error) c.keep_on.result c.walk_last_fault.ensures refl c.keep_on.ensures.ok c.keep_on.ensures.err
