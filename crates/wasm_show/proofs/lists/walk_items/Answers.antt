use Rattle.std.proofs.Common.{◌∙◌, ap, sym}
use Rattle.std.specs.Option.{is_some}
use Rattle.wasm_show.specs.Lists.{found_seen}
use Rattle.wasm_show.proofs.Walking.{none_so_far, one_so_far, all_seen, all_stopped}
use Rattle.wasm_show.proofs.lists.walk_items.Goals.{else-items-test, then-items-test+in-None}
use Rattle.wasm_show.proofs.lists.walk_items.Goals as goal

pub items-init : goal.items-init
items-init g c = none_so_far g.W.Walker.saw g.W.Walker.why (g.I.Items.owes g.W.Walker.IS_DEEP c.args.level) c.args.items c.args.walker.now

pub items-preserved-in-Some : goal.items-preserved-in-Some
items-preserved-in-Some g c = one_so_far g.W.Walker.saw g.W.Walker.why (g.I.Items.owes g.W.Walker.IS_DEEP c.args.level)
    (found_seen (g.I.Items.lists g.W.Walker.IS_DEEP) g.W.Walker.IS_DEEP c.args.level) _ _ _ _ _ _ _ c.items.invariant
    (sym (ap is_some c.why_stopped.ensures) ∙ c.items-test.ensures) (c.in-Some.ensures.owed _ _) c.walk_found.ensures

pub items-preserved : goal.items-preserved
items-preserved g c = one_so_far g.W.Walker.saw g.W.Walker.why (g.I.Items.owes g.W.Walker.IS_DEEP c.args.level)
    (found_seen (g.I.Items.lists g.W.Walker.IS_DEEP) g.W.Walker.IS_DEEP c.args.level) _ _ _ _ _ _ _ c.items.invariant
    (sym (ap is_some c.why_stopped.ensures) ∙ c.items-test.ensures) (c.in-Some.ensures.owed _ _) c.walk_found.ensures

pub returns : goal.returns
returns g c all o =
    elim c.items-test.branch [
      | else-items-test w ↦ all_stopped g.W.Walker.saw g.W.Walker.why (g.I.Items.owes g.W.Walker.IS_DEEP c.args.level) _ _ _ _
          c.items.invariant (sym (ap is_some c.why_stopped.ensures) ∙ w.items-test.ensures) all o
      | then-items-test+in-None w ↦ all_seen g.W.Walker.saw g.W.Walker.why (g.I.Items.owes g.W.Walker.IS_DEEP c.args.level)
          (found_seen (g.I.Items.lists g.W.Walker.IS_DEEP) g.W.Walker.IS_DEEP c.args.level) _ _ w.next_item.new.self _ _
          c.items.invariant (w.in-None.ensures.owed _ _) all o
    ]
