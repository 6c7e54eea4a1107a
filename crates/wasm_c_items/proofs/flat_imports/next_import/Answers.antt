use Rattle.std.proofs.Common.{◌∙◌, ◌-◌, nat_eq, sym, ap, arith}
use Rattle.std.proofs.lemmas.Bool.{ne_eqb}
use Rattle.wasm_c_items.specs.FlatImports.{flat_by}
use Rattle.wasm_c_items.proofs.FlatImports.{at_bundle, at_import, at_within}
use Rattle.wasm_c_items.proofs.flat_imports.next_import.Goals as goal

pub returns-then-is_within : goal.returns-then-is_within
returns-then-is_within c = c.within.ensures ∙ at_within c.loop-left.left c.args.bytes.now c.loop-left.imports _
    (omega (arith, c.loop-left-test.true)) (sym c.is_within.ensures ∙ c.if-is_within.true) c.loop-left.invariant.same

pub returns-then-one-eq0 : goal.returns-then-one-eq0
returns-then-one-eq0 c = at_import c.loop-left.left c.args.bytes.now c.loop-left.imports c.next_item.new.items c.in_ok-one.one _
    (omega (arith, c.loop-left-test.true)) (sym c.is_within.ensures ∙ c.if-is_within.false)
    (sym c.next_item.ensures ∙ ap (λ o. (o, c.next_item.new.items)) c.in_ok-one.was)
    (ap (λ k. nat_eq k 0) c.if-one-eq0.true) c.loop-left.invariant.same

pub loop-left-preserved : goal.loop-left-preserved
loop-left-preserved c = record {
  same = ap (λ x. flat_by (c.loop-left.left - 1) c.args.bytes.now x) c.enter.ensures
      ∙ at_bundle c.loop-left.left c.args.bytes.now c.loop-left.imports c.next_item.new.items c.in_ok-one.one _
      (omega (arith, c.loop-left-test.true)) (sym c.is_within.ensures ∙ c.if-is_within.false)
      (sym c.next_item.ensures ∙ ap (λ o. (o, c.next_item.new.items)) c.in_ok-one.was)
      (ne_eqb _ 0 c.if-one-eq0.false) c.loop-left.invariant.same;
}
