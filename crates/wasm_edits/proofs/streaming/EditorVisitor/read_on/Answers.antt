use Rattle.wasm_edits.proofs.Common.{Err, Error, None, Ok, Option, Some, refl, ◌∙◌, beside, cut_of, err_from_is_err_and, feed_of}
use Rattle.wasm_edits.proofs.EditProgress.{cut_after, put_not, stopped_here, was_cut, went_past}
use Rattle.wasm_edits.proofs.EditTurns.{requests}
use Rattle.wasm_streams.proofs.ForCallers.{input_kept, sink_then}
use Rattle.wasm_edits.proofs.streaming.EditorVisitor.read_on.Goals as goal

pub returns-in_err-fate-clause-meets : goal.returns-in_err-fate-clause-meets
returns-in_err-fate-clause-meets g c =
    let e = err_from_is_err_and c.from_residual.result c.from_residual.ensures.1 in
    rw (e.1, e.2) (requests (λ e. e.edits.now) (λ e. e.page) g.W.Sink.taken g.W.Sink.has_failed c.args.self.now c.args.self.now _ _ _ _
    (beside (feed_of c.read_or_pass.new.stored.items c.read_or_pass.new.cursor) c.read_or_pass.new.ahead)
    (Err _) refl
    (λ source taken w. stopped_here c.args.self.now.edits.now source _ taken _ _ _ _ _ w _ _ _ c.in_err-fate.ensures.stops)
    c.in_err-fate.ensures.source c.in_err-fate.ensures.sink)

pub put_as-requires : goal.put_as-requires
put_as-requires g c = rw c.in-Part.is at (c.in_ok-fate.ensures.fits c.requires.sound)

pub returns-in_err-put_as-in-Part-clause-meets : goal.returns-in_err-put_as-in-Part-clause-meets
returns-in_err-put_as-in-Part-clause-meets g c =
    let e = err_from_is_err_and c.from_residual-in_err-put_as-in-Part.result c.from_residual-in_err-put_as-in-Part.ensures.1 in
    let cut = c.in_err-put_as-in-Part.ensures.puts.0 in
    rw (e.1, e.2) (requests (λ e. e.edits.now) (λ e. e.page) g.W.Sink.taken g.W.Sink.has_failed c.args.self.now c.args.self.now _ _ _ _
    (beside (feed_of c.read_or_pass.new.stored.items c.read_or_pass.new.cursor) c.read_or_pass.new.ahead)
    (Err _) refl
    (λ source taken w. put_not c.args.self.now.edits.now source _ taken _ _ _ _ _ w _ _ _ _ _
    (rw c.in-Part.is at c.in_ok-fate.ensures.reads) _ _ cut)
    (c.in_ok-fate.ensures.source ∙ input_kept _ _ _ _ cut _)
    (sink_then {A = Option Error} (Err _) _ _ _ c.in_err-put_as-in-Part.ensures.failed c.in_ok-fate.ensures.sink))

pub returns-in_err-write_out-in-Cut-clause-meets :
    goal.returns-in_err-write_out-in-Cut-clause-meets
returns-in_err-write_out-in-Cut-clause-meets g c =
    let e = err_from_is_err_and c.from_residual-in_err-write_out-in-Cut.result c.from_residual-in_err-write_out-in-Cut.ensures.1 in
    let cut = cut_of _ _ _ _ c.in_err-write_out-in-Cut.ensures.writes in
    rw (e.1, e.2) (requests (λ e. e.edits.now) (λ e. e.page) g.W.Sink.taken g.W.Sink.has_failed c.args.self.now c.args.self.now _ _ _ _
    (beside (feed_of c.read_or_pass.new.stored.items c.read_or_pass.new.cursor) c.read_or_pass.new.ahead)
    (Err _) refl
    (λ source taken w. cut_after c.args.self.now.edits.now source _ taken _ _ _ _ _ w _ _ _ _ _
    (rw c.in-Cut.is at c.in_ok-fate.ensures.reads) _ _ cut)
    (c.in_ok-fate.ensures.source ∙ input_kept _ _ _ _ cut _)
    (sink_then {A = Option Error} (Err _) _ _ _ c.in_err-write_out-in-Cut.ensures.failed c.in_ok-fate.ensures.sink))

pub returns-in_ok-put_as-in-Part-clause-meets : goal.returns-in_ok-put_as-in-Part-clause-meets
returns-in_ok-put_as-in-Part-clause-meets g c =
    requests (λ e. e.edits.now) (λ e. e.page) g.W.Sink.taken g.W.Sink.has_failed _ _ _ _ _ _ _ (Ok None) refl
    (λ source taken w. went_past c.args.self.now.edits.now source _ taken _ _ _ _ _ w _ _ _ _ _
    (rw c.in-Part.is at c.in_ok-fate.ensures.reads) _ _ c.in_ok-put_as-in-Part.ensures.puts)
    c.in_ok-fate.ensures.source (c.in_ok-put_as-in-Part.ensures.failed ∙ c.in_ok-fate.ensures.sink)

pub returns-in_ok-write_out-in-Cut-clause-meets : goal.returns-in_ok-write_out-in-Cut-clause-meets
returns-in_ok-write_out-in-Cut-clause-meets g c =
    requests (λ e. e.edits.now) (λ e. e.page) g.W.Sink.taken g.W.Sink.has_failed c.args.self.now c.args.self.now _ _ _ _
    (beside (feed_of c.read_or_pass.new.stored.items c.read_or_pass.new.cursor) c.read_or_pass.new.ahead)
    (Ok (Some c.in-Cut.error)) refl
    (λ source taken w. was_cut c.args.self.now.edits.now source _ taken _ _ _ _ _ w _ _ _ _ _
    (rw c.in-Cut.is at c.in_ok-fate.ensures.reads) _ c.requires.sound c.in_ok-write_out-in-Cut.ensures.writes.0)
    c.in_ok-fate.ensures.source (c.in_ok-write_out-in-Cut.ensures.failed ∙ c.in_ok-fate.ensures.sink)
