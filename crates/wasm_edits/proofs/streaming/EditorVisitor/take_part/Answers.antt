use Rattle.wasm_edits.proofs.Common.{refl}
use Rattle.wasm_edits.proofs.EditTurns.{takes}
use Rattle.wasm_edits.proofs.streaming.EditorVisitor.take_part.Goals as goal

pub returns-clause-takes : goal.returns-clause-takes
returns-clause-takes g c =
    takes (λ e. e.edits.now) (λ e. e.page) g.W.Sink.taken g.W.Sink.has_failed _ _ _ _ _ c.put_part.result c.requires.sound refl
    c.put_part.ensures.takes c.put_part.ensures.failed
