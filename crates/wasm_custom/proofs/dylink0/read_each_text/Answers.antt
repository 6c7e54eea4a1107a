use Rattle.std.proofs.Common.{inr, rules, None}
use Rattle.std.proofs.lemmas.Result.{err_from_is_err_and}
use Rattle.wasm_base.specs.Item.{ReadsAs}
use Rattle.wasm_base.specs.Name.{text_at}
use Rattle.wasm_base.proofs.InTurn.{more_at, fault_at_item, done_at}
use Rattle.wasm_custom.proofs.dylink0.read_each_text.Goals as goal

pub returns-in_err-text-clause-means : goal.returns-in_err-text-clause-means
returns-in_err-text-clause-means g c =
    let p = err_from_is_err_and c.from_residual.result c.from_residual.ensures.1 in
    rw (p.1, p.2) (inr (fault_at_item (ReadsAs (λ text. text.now) (text_at None)) c.args.count c.texts.counter _ _ _ _
    c.texts.invariant.so_far c.texts-test.true (search rules)))

pub texts-preserved : goal.texts-preserved
texts-preserved g c = record {
  so_far = rw c.in_ok-push.ensures.items (more_at (ReadsAs (λ text. text.now) (text_at None)) c.args.count c.texts.counter _ _ _ _ _
      c.texts.invariant.so_far c.texts-test.true (search rules));
  keeps = search rules;
}

pub returns-clause-means : goal.returns-clause-means
returns-clause-means g c = done_at (ReadsAs (λ text. text.now) (text_at None)) c.args.count c.texts.counter _ _ _ c.texts.invariant.so_far
    c.texts-test.false
