use Rattle.wasm_examples.proofs.Common.{Ok, Err, ◌∙◌, ap, refl, inl, inr, err_from_is_err_and, place, linking_parts, after_each}
use Rattle.wasm_examples.proofs.Common.{linked_parts}
use Rattle.wasm_examples.specs.Linking.{with_subsection}
use Rattle.wasm_examples.proofs.Parts.{parts_begin, part_came, parts_over}
use Rattle.wasm_examples.proofs.linking.Linked.add_linking.Goals as goal

pub loop-subsection-init : goal.loop-subsection-init
loop-subsection-init c = rw c.into_iter-subsection-iterator.ensures.into_iter_gives
    (record { can = tt; finite = tt; parts = _; left = parts_begin (place c.args.section.subsections); so_far = refl })

pub returns-in_err-subsection : goal.returns-in_err-subsection
returns-in_err-subsection c =
    let p = err_from_is_err_and c.from_residual.result c.from_residual.ensures.1 in
    let m = part_came linking_parts c.loop-subsection.invariant.left (Err c.in_err-subsection.field-0.0) c.in_err-subsection.was
    c.in-Some.ensures.steps in
    rw (p.1, p.2) (inr (c.loop-subsection.invariant.so_far
    ∙ ap (after_each (λ f. f) with_subsection (linked_parts c.loop-subsection.self)) m.same))

pub returns-in_err-add_subsection : goal.returns-in_err-add_subsection
returns-in_err-add_subsection c =
    let p = err_from_is_err_and c.from_residual-in_err-add_subsection.result c.from_residual-in_err-add_subsection.ensures.1 in
    let m = part_came linking_parts c.loop-subsection.invariant.left (Ok c.in_ok-subsection.field-0) c.in_ok-subsection.was
    c.in-Some.ensures.steps in
    rw (p.1, p.2) (elim c.in_err-add_subsection.ensures [
      | inl memory ↦ inl memory
      | inr h ↦ inr (c.loop-subsection.invariant.so_far
          ∙ (ap (after_each (λ f. f) with_subsection (linked_parts c.loop-subsection.self)) m.same ∙ rw h refl))
    ])

pub loop-subsection-preserved : goal.loop-subsection-preserved
loop-subsection-preserved c =
    let m = part_came linking_parts c.loop-subsection.invariant.left (Ok c.in_ok-subsection.field-0) c.in_ok-subsection.was
    c.in-Some.ensures.steps in
    record {
      can = tt;
      finite = tt;
      parts = m.later;
      left = m.left;
      so_far = c.loop-subsection.invariant.so_far
          ∙ (ap (after_each (λ f. f) with_subsection (linked_parts c.loop-subsection.self)) m.same
          ∙ rw c.in_ok-add_subsection.ensures refl);
    }

pub returns : goal.returns
returns c = c.loop-subsection.invariant.so_far
    ∙ ap (after_each (λ f. f) with_subsection (linked_parts c.loop-subsection.self))
    (parts_over linking_parts c.loop-subsection.invariant.left c.in-None.ensures.steps)
