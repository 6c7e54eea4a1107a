use Rattle.std.proofs.Common.{◌≡◌, ◌∙◌, All, false, refl, subst, sym}
use Rattle.std.proofs.lemmas.List.Elements.{All-more}
use Rattle.std.proofs.lemmas.List.{take_all}
use Rattle.wasm_encode.proofs.expressions.are_inner.Goals as goal
use Rattle.wasm_items.specs.Instructions.{is_end}

pub operators-preserved : goal.operators-preserved
operators-preserved c =
    All-more (λ x. is_end x ≡ false) c.args.operators.now c.operators.operator-index _ c.operators-test.true c.operators.invariant
    (sym c.ends.ensures ∙ c.if-ends.false)

pub returns : goal.returns
returns c = (
  λ t. subst (λ xs. All (λ x. is_end x ≡ false) xs)
      (take_all c.operators.operator-index c.args.operators.now c.operators-test.false) c.operators.invariant,
  λ a. refl,
)
