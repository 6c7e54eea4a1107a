use Rattle.wasm_lines.proofs.Common.{refl, begun, Consumes-nil, err_from_is_err_and, line_of, listing_by, nothing_read}
use Rattle.wasm_lines.proofs.ListTurns.{writer}
use Rattle.wasm_streams.proofs.ForCallers.{may_begin, no_memory}
use Rattle.wasm_lines.proofs.listing.list_in.Goals as goal

pub returns-in_err-buffer : goal.returns-in_err-buffer
returns-in_err-buffer g c =
    let e = err_from_is_err_and c.from_residual.result c.from_residual.ensures.1 in
    rw (e.1, e.2) (record {
      ends = no_memory line_of _ _ _ _ _ _ (begun (listing_by line_of) refl _ _ _ (nothing_read _)) _ _ (Consumes-nil _);
      source = refl;
      sink = refl;
    })

pub visit-requires-clause-begins : goal.visit-requires-clause-begins
visit-requires-clause-begins g c =
    let sink = g.W.Sink in
    may_begin (writer (λ l. l.page) sink.taken sink.has_failed) _ _ _ _ refl c.new.ensures
