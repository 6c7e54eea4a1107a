use Rattle.wasm_dumper.proofs.Common.{sym}
use Rattle.wasm_dumper.proofs.DumpTurns.{part_is_no_request}
use Rattle.wasm_dumper.proofs.WalkSteps.{takes}
use Rattle.wasm_dumper.proofs.walks.StepsVisitorGlobal.take_part.Goals as goal

pub returns-clause-takes : goal.returns-clause-takes
returns-clause-takes g c =
    let is = c.from-payload.ensures in
    rw (sym is.0) (takes g.W.Walker.saw g.W.Walker.why g.W.Walker.IS_DEEP (λ v. v.counts) _ _ _ _ _ (part_is_no_request _ _)
    c.keep_on.result (c.walk_payload.ensures is.1) (c.pass.ensures is.1) c.keep_on.ensures.ok c.keep_on.ensures.err)
