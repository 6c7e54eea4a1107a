use Rattle.wasm_edits.proofs.Common.{[], refl, begun, Consumes-nil, err_from_is_err_and, nothing_read}
use Rattle.wasm_edits.proofs.EditProgress.{gave_up_at_once}
use Rattle.wasm_edits.proofs.EditTurns.{writer}
use Rattle.wasm_edits.specs.Edits.{edited_bytes}
use Rattle.wasm_streams.proofs.ForCallers.{may_begin}
use Rattle.wasm_edits.proofs.streaming.edit_parts.Goals as goal

pub returns-in_err-buffer : goal.returns-in_err-buffer
returns-in_err-buffer g c =
    let e = err_from_is_err_and c.from_residual.result c.from_residual.ensures.1 in
    rw (e.1, e.2) (record {
      ends = gave_up_at_once c.args.edits.now _ _ _ _ _ _ (begun (edited_bytes c.args.edits.now) refl _ _ _ (nothing_read _)) _ []
          (Consumes-nil _);
      source = refl;
      sink = refl;
    })

pub visit-requires-clause-begins : goal.visit-requires-clause-begins
visit-requires-clause-begins g c =
    let sink = g.W.Sink in
    may_begin (writer (λ e. e.edits.now) (λ e. e.page) sink.taken sink.has_failed) _ _ _ _ refl c.new.ensures
