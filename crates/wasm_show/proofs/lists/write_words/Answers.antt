use Rattle.std.proofs.Common.{◌≡◌, ℕ, arith, length, rules, subst, take}
use Rattle.std.specs.List.{flat_map}
use Rattle.wasm_output.specs.Said.{Says}
use Rattle.wasm_show.specs.TypeText.{after_blank}
use Rattle.wasm_output.proofs.ForCallers.{says_nothing, says_item_more, says_all}
use Rattle.wasm_show.proofs.lists.write_words.Goals as goal

pub loop-item-init : goal.loop-item-init
loop-item-init g c = record { adds = search rules; says = says_nothing _ }

pub loop-item-preserved : goal.loop-item-preserved
loop-item-preserved g c = record {
  adds = search rules;
  says = says_item_more (λ x. after_blank (g.T.Text.words x)) c.args.items.now _ c.item-item.result _ _ _ c.loop-item-test.true
      c.item-item.is c.loop-item.invariant.says c.write_word.ensures.says;
}

pub returns-clause-says : goal.returns-clause-says
returns-clause-says g c =
    let at_end : c.loop-item.item-index ≡ length c.args.items.now = omega arith in
    says_all (λ x. after_blank (g.T.Text.words x)) c.args.items.now _ _
    (subst (λ (i : ℕ). Says (flat_map (λ x. after_blank (g.T.Text.words x)) (take i c.args.items.now))
    (g.O.Tree.writing c.args.out.now) (g.O.Tree.writing c.loop-item.out)) at_end c.loop-item.invariant.says)
