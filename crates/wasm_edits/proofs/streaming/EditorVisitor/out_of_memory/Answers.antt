use Rattle.wasm_edits.proofs.EditTurns.{gives_out}
use Rattle.wasm_edits.proofs.streaming.EditorVisitor.out_of_memory.Goals as goal

pub returns : goal.returns
returns g c = record { gives = gives_out (λ e. e.edits.now) (λ e. e.page) g.W.Sink.taken g.W.Sink.has_failed _ _ }
