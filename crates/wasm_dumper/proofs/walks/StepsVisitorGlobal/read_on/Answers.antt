use Rattle.wasm_dumper.proofs.Common.{◌∙◌, Err, Fault, None, Ok, Some, beside, err_from_is_err_and, feed_of, lending}
use Rattle.wasm_io.specs.Calls.{device_of}
use Rattle.wasm_streams.specs.Visits.{since}
use Rattle.wasm_dumper.proofs.WalkSteps.{cut, ended, failed, filled, passed, requests, stopped, stopped_at_last}
use Rattle.wasm_dumper.proofs.walks.StepsVisitorGlobal.read_on.Goals as goal

pub returns-in_err-supply-clause-meets : goal.returns-in_err-supply-clause-meets
returns-in_err-supply-clause-meets g c =
    let x = err_from_is_err_and c.from_residual.result c.from_residual.ensures.1 in
    rw (x.1, x.2) (requests g.W.Walker.saw g.W.Walker.why g.W.Walker.IS_DEEP (λ v. v.counts) c.args.self.now c.args.self.now
    c.args.walker.now
    c.args.walker.now (device_of g.R.Source.remaining g.R.Source.has_failed c.args.input.now c.supply.new.input)
    (lending c.args.stored.now.items c.args.ahead.now c.args.cursor.now)
    (beside (feed_of c.supply.new.stored.items c.supply.new.cursor) c.supply.new.ahead) (Err c.in_err-supply.field-0.0)
    (λ start full had mid d. failed g.W.Walker.saw g.W.Walker.why g.W.Walker.IS_DEEP full (g.R.Source.remaining c.args.input.now)
    (lending c.args.stored.now.items c.args.ahead.now c.args.cursor.now) c.args.self.now.counts start c.args.walker.now d
    (device_of g.R.Source.remaining g.R.Source.has_failed c.args.input.now c.supply.new.input) had mid c.in_err-supply.field-0.0
    (c.in_err-supply.ensures.meets full d.events d.asks)))

pub returns-in-Read-clause-meets : goal.returns-in-Read-clause-meets
returns-in-Read-clause-meets g c =
    let meets = rw c.in-Read.is at c.in_ok-supply.ensures.meets in
    requests g.W.Walker.saw g.W.Walker.why g.W.Walker.IS_DEEP (λ v. v.counts) c.args.self.now c.args.self.now c.args.walker.now
    c.args.walker.now (device_of g.R.Source.remaining g.R.Source.has_failed c.args.input.now c.supply.new.input)
    (lending c.args.stored.now.items c.args.ahead.now c.args.cursor.now)
    (beside (feed_of c.supply.new.stored.items c.supply.new.cursor) c.supply.new.ahead) (Ok None)
    (λ start full had mid d. filled g.W.Walker.saw g.W.Walker.why g.W.Walker.IS_DEEP full (g.R.Source.remaining c.args.input.now)
    (lending c.args.stored.now.items c.args.ahead.now c.args.cursor.now) c.args.self.now.counts start c.args.walker.now d
    (g.R.Source.remaining c.supply.new.input) (beside (feed_of c.supply.new.stored.items c.supply.new.cursor) c.supply.new.ahead)
    (meets full d.events d.asks))

pub returns-in_err-keep_on-in-Passed-clause-meets : goal.returns-in_err-keep_on-in-Passed-clause-meets
returns-in_err-keep_on-in-Passed-clause-meets g c =
    let meets = rw (c.in-Passed.is, c.all_parts.ensures.only, c.all_parts.ensures.bytes) at c.in_ok-supply.ensures.meets in
    let x = err_from_is_err_and c.from_residual-in_err-keep_on-in-Passed.result c.from_residual-in_err-keep_on-in-Passed.ensures.1 in
    rw (x.1, x.2) (requests g.W.Walker.saw g.W.Walker.why g.W.Walker.IS_DEEP (λ v. v.counts) c.args.self.now c.pass_skipped.new.self
    c.args.walker.now
    c.pass_skipped.new.walker (device_of g.R.Source.remaining g.R.Source.has_failed c.args.input.now c.supply.new.input)
    (lending c.args.stored.now.items c.args.ahead.now c.args.cursor.now)
    (beside (feed_of c.supply.new.stored.items c.supply.new.cursor) c.supply.new.ahead) (Err c.in_err-keep_on-in-Passed.field-0.0)
    (λ start full had mid d.
    let (e, is, on) = meets full d.events d.asks in
    stopped g.W.Walker.saw g.W.Walker.why g.W.Walker.IS_DEEP (since full had (device_of g.R.Source.remaining g.R.Source.has_failed
    c.args.input.now c.supply.new.input))
    (c.in_ok-supply.ensures.source ∙ mid) start c.pass_skipped.new.walker
    (beside (feed_of c.supply.new.stored.items c.supply.new.cursor) c.supply.new.ahead) c.pass_skipped.new.self.counts
    (passed g.W.Walker.saw g.W.Walker.why g.W.Walker.IS_DEEP full (g.R.Source.remaining c.args.input.now)
    (lending c.args.stored.now.items c.args.ahead.now c.args.cursor.now) c.args.self.now.counts start c.args.walker.now d
    c.in-Passed.outline (g.R.Source.remaining c.supply.new.input)
    (beside (feed_of c.supply.new.stored.items c.supply.new.cursor) c.supply.new.ahead) e is on c.pass_skipped.new.walker
    c.pass_skipped.ensures.sees c.pass_skipped.new.self.counts c.pass_skipped.ensures.counts).0
    c.in_err-keep_on-in-Passed.field-0.0 c.in_err-keep_on-in-Passed.ensures.err))

pub returns-in_ok-keep_on-in-Passed-clause-meets : goal.returns-in_ok-keep_on-in-Passed-clause-meets
returns-in_ok-keep_on-in-Passed-clause-meets g c =
    let meets = rw (c.in-Passed.is, c.all_parts.ensures.only, c.all_parts.ensures.bytes) at c.in_ok-supply.ensures.meets in
    requests g.W.Walker.saw g.W.Walker.why g.W.Walker.IS_DEEP (λ v. v.counts) c.args.self.now c.pass_skipped.new.self c.args.walker.now
    c.pass_skipped.new.walker (device_of g.R.Source.remaining g.R.Source.has_failed c.args.input.now c.supply.new.input)
    (lending c.args.stored.now.items c.args.ahead.now c.args.cursor.now)
    (beside (feed_of c.supply.new.stored.items c.supply.new.cursor) c.supply.new.ahead) (Ok None)
    (λ start full had mid d.
    let (e, is, on) = meets full d.events d.asks in
    passed g.W.Walker.saw g.W.Walker.why g.W.Walker.IS_DEEP full (g.R.Source.remaining c.args.input.now)
    (lending c.args.stored.now.items c.args.ahead.now c.args.cursor.now) c.args.self.now.counts start c.args.walker.now d
    c.in-Passed.outline (g.R.Source.remaining c.supply.new.input)
    (beside (feed_of c.supply.new.stored.items c.supply.new.cursor) c.supply.new.ahead) e is on c.pass_skipped.new.walker
    c.pass_skipped.ensures.sees c.pass_skipped.new.self.counts c.pass_skipped.ensures.counts)

pub returns-in_err-keep_on-in-Cut-clause-meets : goal.returns-in_err-keep_on-in-Cut-clause-meets
returns-in_err-keep_on-in-Cut-clause-meets g c =
    let meets = rw c.in-Cut.is at c.in_ok-supply.ensures.meets in
    let x = err_from_is_err_and c.from_residual-in_err-keep_on-in-Cut.result c.from_residual-in_err-keep_on-in-Cut.ensures.1 in
    rw (x.1, x.2) (requests g.W.Walker.saw g.W.Walker.why g.W.Walker.IS_DEEP (λ v. v.counts) c.args.self.now c.args.self.now
    c.args.walker.now
    c.walk_last_fault.new.walker (device_of g.R.Source.remaining g.R.Source.has_failed c.args.input.now c.supply.new.input)
    (lending c.args.stored.now.items c.args.ahead.now c.args.cursor.now)
    (beside (feed_of c.supply.new.stored.items c.supply.new.cursor) c.supply.new.ahead) (Err c.in_err-keep_on-in-Cut.field-0.0)
    (λ start full had mid d.
    let (last, reached, moves) = meets full d.events d.asks in
    stopped_at_last g.W.Walker.saw g.W.Walker.why g.W.Walker.IS_DEEP (since full had (device_of g.R.Source.remaining g.R.Source.has_failed
    c.args.input.now c.supply.new.input))
    (c.in_ok-supply.ensures.source ∙ mid) start c.walk_last_fault.new.walker (Fault c.in-Cut.error)
    (cut g.W.Walker.saw g.W.Walker.why g.W.Walker.IS_DEEP full (g.R.Source.remaining c.args.input.now)
    (lending c.args.stored.now.items c.args.ahead.now c.args.cursor.now) c.args.self.now.counts start c.args.walker.now d
    (g.R.Source.remaining c.supply.new.input) c.in-Cut.error last reached moves c.walk_last_fault.new.walker c.walk_last_fault.ensures)
    c.in_err-keep_on-in-Cut.field-0.0 c.in_err-keep_on-in-Cut.ensures.err))

pub returns-in_ok-keep_on-in-Cut-clause-meets : goal.returns-in_ok-keep_on-in-Cut-clause-meets
returns-in_ok-keep_on-in-Cut-clause-meets g c =
    let meets = rw c.in-Cut.is at c.in_ok-supply.ensures.meets in
    requests g.W.Walker.saw g.W.Walker.why g.W.Walker.IS_DEEP (λ v. v.counts) c.args.self.now c.args.self.now c.args.walker.now
    c.walk_last_fault.new.walker (device_of g.R.Source.remaining g.R.Source.has_failed c.args.input.now c.supply.new.input)
    (lending c.args.stored.now.items c.args.ahead.now c.args.cursor.now)
    (beside (feed_of c.supply.new.stored.items c.supply.new.cursor) c.supply.new.ahead) (Ok (Some c.in-Cut.error))
    (λ start full had mid d.
    let (last, reached, moves) = meets full d.events d.asks in
    ended g.W.Walker.saw g.W.Walker.why g.W.Walker.IS_DEEP (since full had (device_of g.R.Source.remaining g.R.Source.has_failed
    c.args.input.now c.supply.new.input))
    (c.in_ok-supply.ensures.source ∙ mid) start c.walk_last_fault.new.walker (Fault c.in-Cut.error)
    (cut g.W.Walker.saw g.W.Walker.why g.W.Walker.IS_DEEP full (g.R.Source.remaining c.args.input.now)
    (lending c.args.stored.now.items c.args.ahead.now c.args.cursor.now) c.args.self.now.counts start c.args.walker.now d
    (g.R.Source.remaining c.supply.new.input) c.in-Cut.error last reached moves c.walk_last_fault.new.walker c.walk_last_fault.ensures)
    c.in_ok-keep_on-in-Cut.ensures.ok)
