use Rattle.std.proofs.Common.{inr, rules}
use Rattle.std.proofs.lemmas.Result.{err_from_is_err_and}
use Rattle.wasm_base.proofs.InTurn.{more_at, fault_at_item, done_at}
use Rattle.wasm_base.proofs.owned.read_items.Goals as goal

pub returns-in_err-item-clause-means : goal.returns-in_err-item-clause-means
returns-in_err-item-clause-means g c =
    let p = err_from_is_err_and c.from_residual.result c.from_residual.ensures.1 in
    rw (p.1, p.2) (inr (fault_at_item g.T.FromReader.meaning c.args.count c.items.counter _ _ _ _ c.items.invariant.so_far c.items-test.true
    c.in_err-item.ensures.means))

pub items-preserved : goal.items-preserved
items-preserved g c = record {
  so_far = rw c.in_ok-put.ensures.ok (more_at g.T.FromReader.meaning c.args.count c.items.counter _ _ _ _ _ c.items.invariant.so_far
      c.items-test.true c.in_ok-item.ensures.means);
  keeps = search rules;
}

pub returns-clause-means : goal.returns-clause-means
returns-clause-means g c = done_at g.T.FromReader.meaning c.args.count c.items.counter _ _ _ c.items.invariant.so_far c.items-test.false
