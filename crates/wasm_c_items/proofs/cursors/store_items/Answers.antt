use Rattle.std.proofs.Common.{◌∙◌, sym, ap, arith}
use Rattle.std.proofs.lemmas.List.{length-set}
use Rattle.wasm_c_items.proofs.Batches.{ends_at, goes_on_at}
use Rattle.wasm_c_items.proofs.cursors.store_items.Goals as goal

pub loop-count-preserved : goal.loop-count-preserved
loop-count-preserved g c =
    let within = c.loop-count-test.true in
    record {
      within = omega (arith, length-set c.loop-count.out c.loop-count.count c.in-Some.item, within);
      stored = goes_on_at (sym c.next.ensures ∙ ap (λ r. (r, c.next.new.items)) c.in-Some.is) within
          c.loop-count.invariant.stored;
    }

pub returns-in-None : goal.returns-in-None
returns-in-None g c = ends_at _ _ _ _ _ _ _ (sym c.next.ensures ∙ ap (λ r. (r, c.next.new.items)) c.in-None.is) c.loop-count-test.true
    c.loop-count.invariant.stored
