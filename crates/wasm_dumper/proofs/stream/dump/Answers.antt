use Rattle.wasm_dumper.proofs.Common.{err_from_is_err_and}
use Rattle.wasm_dumper.proofs.DumpTurns.{may_begin}
use Rattle.wasm_dumper.proofs.Dumping.{by_tree, no_room}
use Rattle.wasm_dumper.proofs.stream.dump.Goals as goal

pub returns-in_err-buffer : goal.returns-in_err-buffer
returns-in_err-buffer g c style taken failed s =
    let e = err_from_is_err_and c.from_residual.result c.from_residual.ensures.1 in
    rw (e.1, e.2) (no_room style _ _ _ _ taken failed _ s)

pub visit-requires-clause-begins : goal.visit-requires-clause-begins
visit-requires-clause-begins g c =
    may_begin (λ d. d.shown.only.now) (λ d. d.shown.has_bytes) (λ d. d.counts) g.O.Tree.writing _ _ _ _ c.new.ensures

pub returns : goal.returns
returns g c style taken failed s = by_tree _ _ _ _ _ _ c.visit.ensures.done style taken failed s
