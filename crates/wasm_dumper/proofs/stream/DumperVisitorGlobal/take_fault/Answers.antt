use Rattle.wasm_dumper.proofs.Common.{refl}
use Rattle.wasm_dumper.proofs.DumpTurns.{stop_is_no_request, takes}
use Rattle.wasm_dumper.proofs.Numbering.{shows_fault}
use Rattle.wasm_streams.specs.Step.{Stop}
use Rattle.wasm_dumper.proofs.stream.DumperVisitorGlobal.take_fault.Goals as goal

pub returns-clause-takes : goal.returns-clause-takes
returns-clause-takes g c =
    takes (λ d. d.shown.only.now) (λ d. d.shown.has_bytes) (λ d. d.counts) g.O.Tree.writing _ _ _ _ _
    (shows_fault c.args.self.now.shown.only.now c.args.self.now.shown.has_bytes c.args.self.now.counts (Stop c.args.error) _ _ _ refl
    c.show_last_fault.ensures) refl (stop_is_no_request c.args.error) c.go_on.result c.go_on.ensures.ok
    c.go_on.ensures.err refl refl
