use Rattle.wasm_dumper.proofs.Common.{err_from_is_err_and}
use Rattle.wasm_dumper.specs.declared.walks.Steps.{Steps}
use Rattle.wasm_dumper.proofs.WalkSteps.{may_begin, no_room}
use Rattle.wasm_dumper.proofs.walks.walk.Goals as goal

pub returns-in_err-buffer : goal.returns-in_err-buffer
returns-in_err-buffer g c =
    let e = err_from_is_err_and c.from_residual.result c.from_residual.ensures.1 in
    rw (e.1, e.2) (no_room g.W.Walker.saw g.W.Walker.why g.W.Walker.IS_DEEP (g.R.Source.remaining c.args.input.now)
    (g.R.Source.has_failed c.args.input.now) c.args.walker.now)

pub visit-requires-clause-begins : goal.visit-requires-clause-begins
visit-requires-clause-begins g c = may_begin g.W.Walker.saw g.W.Walker.why g.W.Walker.IS_DEEP (λ (v : Steps). v.counts)
    (record { alloc = c.args.alloc; counts = c.new.result }) c.args.walker.now (g.R.Source.remaining c.args.input.now)
    (g.R.Source.has_failed c.args.input.now) c.new.ensures
