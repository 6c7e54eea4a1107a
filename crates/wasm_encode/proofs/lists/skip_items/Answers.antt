use Rattle.std.proofs.Common.{rules}
use Rattle.std.proofs.lemmas.Result.{err_from_is_err_and}
use Rattle.wasm_base.proofs.InnerLists.{one_passed, not_passed}
use Rattle.wasm_base.specs.Window.{place}
use Rattle.wasm_encode.proofs.lists.skip_items.Goals as goal

pub returns-in_err-skip_item : goal.returns-in_err-skip_item
returns-in_err-skip_item g c =
    let p = err_from_is_err_and c.from_residual.result c.from_residual.ensures.1 in
    rw (p.1, p.2) (not_passed g.T.SkipItem.skipped_at c.args.count c.items.counter _ _ _ c.items-test.true c.items.invariant
    c.in_err-skip_item.ensures.gives)

pub items-preserved : goal.items-preserved
items-preserved g c = one_passed g.T.SkipItem.skipped_at c.args.count c.items.counter (place c.items.reader)
    (place c.skip_item.new.reader) _ c.items-test.true c.items.invariant (search rules)
