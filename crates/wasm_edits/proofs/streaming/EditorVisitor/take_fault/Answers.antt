use Rattle.wasm_edits.proofs.Common.{[], Ok, append-nil, refl}
use Rattle.std.proofs.KnownBytes.{Appends-nil}
use Rattle.wasm_edits.proofs.EditTurns.{takes}
use Rattle.wasm_edits.proofs.streaming.EditorVisitor.take_fault.Goals as goal

pub returns-clause-takes : goal.returns-clause-takes
returns-clause-takes g c =
    takes (λ e. e.edits.now) (λ e. e.page) g.W.Sink.taken g.W.Sink.has_failed _ _ _ _ _ (Ok tt) c.requires.sound refl
    (record { moved = []; writes = Appends-nil _; waits = append-nil _ }) refl
