use Rattle.std.proofs.Common.{rules}
use Rattle.std.proofs.lemmas.Result.{err_from_is_err_and}
use Rattle.wasm_base.proofs.InnerLists.{one_passed, not_passed}
use Rattle.wasm_base.specs.Window.{place}
use Rattle.wasm_base.proofs.inner.skip_items.Goals as goal

pub returns-in_err-skip_item-clause-gives : goal.returns-in_err-skip_item-clause-gives
returns-in_err-skip_item-clause-gives g c =
    let p = err_from_is_err_and c.from_residual.result c.from_residual.ensures.1 in
    rw (p.1, p.2) (not_passed g.T.SkipItem.skipped_at c.args.count c.items.counter _ _ _ c.items-test.true c.items.invariant.so_far
    c.in_err-skip_item.ensures.gives)

pub items-preserved : goal.items-preserved
items-preserved g c = record {
  so_far = one_passed g.T.SkipItem.skipped_at c.args.count c.items.counter (place c.items.reader) (place c.skip_item.new.reader) _
      c.items-test.true c.items.invariant.so_far (search rules);
  keeps = search rules;
}
