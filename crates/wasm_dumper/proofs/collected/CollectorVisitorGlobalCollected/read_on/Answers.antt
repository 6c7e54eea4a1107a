use Rattle.wasm_dumper.proofs.Collecting.{kept, requests}
use Rattle.wasm_dumper.proofs.Common.{◌++◌, ◌∷◌, [], None, Ok, Err, Some, beside, err_from_is_err_and, feed_of, lending}
use Rattle.wasm_io.specs.Calls.{device_of}
use Rattle.wasm_dumper.proofs.collected.CollectorVisitorGlobalCollected.read_on.Goals as goal

pub returns-in_err-supply-clause-meets : goal.returns-in_err-supply-clause-meets
returns-in_err-supply-clause-meets g c =
    let x = err_from_is_err_and c.from_residual.result c.from_residual.ensures.1 in
    rw x.1 (requests c.args.self.now c.args.self.now c.args.names.now c.args.names.now
    (device_of g.R.Source.remaining g.R.Source.has_failed c.args.input.now c.supply.new.input)
    (lending c.args.stored.now.items c.args.ahead.now c.args.cursor.now)
    (beside (feed_of c.supply.new.stored.items c.supply.new.cursor) c.supply.new.ahead) (Err x.0)
    (λ full events a. kept c.args.names.now))

pub returns-in-Read-clause-meets : goal.returns-in-Read-clause-meets
returns-in-Read-clause-meets g c =
    let meets = rw c.in-Read.is at c.in_ok-supply.ensures.meets in
    requests c.args.self.now c.args.self.now c.args.names.now c.args.names.now
    (device_of g.R.Source.remaining g.R.Source.has_failed c.args.input.now c.supply.new.input)
    (lending c.args.stored.now.items c.args.ahead.now c.args.cursor.now)
    (beside (feed_of c.supply.new.stored.items c.supply.new.cursor) c.supply.new.ahead) (Ok None)
    (λ full events a. (kept c.args.names.now, events, meets full events a))

pub returns-in_err-add_skipped-in-Passed-clause-meets : goal.returns-in_err-add_skipped-in-Passed-clause-meets
returns-in_err-add_skipped-in-Passed-clause-meets g c =
    let x = err_from_is_err_and c.from_residual-in_err-add_skipped-in-Passed.result
    c.from_residual-in_err-add_skipped-in-Passed.ensures.1 in
    rw x.1 (requests c.args.self.now c.args.self.now c.args.names.now c.add_skipped.new.self
    (device_of g.R.Source.remaining g.R.Source.has_failed c.args.input.now c.supply.new.input)
    (lending c.args.stored.now.items c.args.ahead.now c.args.cursor.now)
    (beside (feed_of c.supply.new.stored.items c.supply.new.cursor) c.supply.new.ahead) (Err x.0)
    (λ full events a. record { named = c.add_skipped.ensures.keeps; linked = c.add_skipped.ensures.linked }))

pub returns-in_ok-add_skipped-in-Passed-clause-meets : goal.returns-in_ok-add_skipped-in-Passed-clause-meets
returns-in_ok-add_skipped-in-Passed-clause-meets g c =
    let meets = rw c.in-Passed.is at c.in_ok-supply.ensures.meets in
    requests c.args.self.now c.args.self.now c.args.names.now c.add_skipped.new.self
    (device_of g.R.Source.remaining g.R.Source.has_failed c.args.input.now c.supply.new.input)
    (lending c.args.stored.now.items c.args.ahead.now c.args.cursor.now)
    (beside (feed_of c.supply.new.stored.items c.supply.new.cursor) c.supply.new.ahead) (Ok None)
    (λ full events a.
    let (e, is, on) = meets full events a in
    (record { named = c.add_skipped.ensures.keeps; linked = c.add_skipped.ensures.linked }, events ++ e ∷ [], on))

pub returns-in-Cut-clause-meets : goal.returns-in-Cut-clause-meets
returns-in-Cut-clause-meets g c = requests c.args.self.now c.args.self.now c.args.names.now c.args.names.now
    (device_of g.R.Source.remaining g.R.Source.has_failed c.args.input.now c.supply.new.input)
    (lending c.args.stored.now.items c.args.ahead.now c.args.cursor.now)
    (beside (feed_of c.supply.new.stored.items c.supply.new.cursor) c.supply.new.ahead) (Ok (Some c.in-Cut.error))
    (λ full events a. kept c.args.names.now)
