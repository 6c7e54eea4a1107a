use Rattle.wasm_dumper.proofs.Common.{err_from_is_err_and, refl, sym}
use Rattle.wasm_dumper.proofs.DumpTurns.{part_is_no_request, stops_before, takes}
use Rattle.wasm_dumper.proofs.stream.DumperVisitorGlobal.take_part.Goals as goal

pub returns-in_err-learn_payload-clause-takes : goal.returns-in_err-learn_payload-clause-takes
returns-in_err-learn_payload-clause-takes g c =
    let e = err_from_is_err_and c.from_residual.result c.from_residual.ensures.1 in
    rw (e.1, e.2) (stops_before (λ d. d.shown.only.now) (λ d. d.shown.has_bytes) (λ d. d.counts) g.O.Tree.writing
    _ c.args.self.now _ _ _ _ c.learn_payload.ensures.adds c.in_err-learn_payload.ensures.stops)

pub returns-clause-takes : goal.returns-clause-takes
returns-clause-takes g c =
    let s = c.show_part.ensures in
    let is = c.from-payload.ensures in
    rw (sym is.0) (takes (λ d. d.shown.only.now) (λ d. d.shown.has_bytes) (λ d. d.counts) g.O.Tree.writing _ _ _ _ _
    (rw c.in_ok-learn_payload.ensures.keeps at (s.shows is.1)) (s.counts is.1) (part_is_no_request _ _) c.go_on.result c.go_on.ensures.ok
    c.go_on.ensures.err refl refl)
