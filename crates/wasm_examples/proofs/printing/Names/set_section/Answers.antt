use Rattle.wasm_examples.proofs.Common.{Ok, Err, ◌∙◌, ap, sym, refl, place, name_parts, id_of_parts, texts_of, ascending, with_all}
use Rattle.wasm_examples.specs.Printing.{with_subsection}
use Rattle.wasm_examples.proofs.Parts.{parts_begin, part_read, parts_over}
use Rattle.wasm_examples.proofs.printing.Names.set_section.Goals as goal

pub loop-subsection-init : goal.loop-subsection-init
loop-subsection-init c = rw (c.into_iter-subsection-iterator.ensures.into_iter_gives, c.new-subsection-items.ensures)
    (record { can = tt; finite = tt; parts = _; left = parts_begin (place c.args.window); so_far = refl })

pub loop-subsection-preserved-in-Ok : goal.loop-subsection-preserved-in-Ok
loop-subsection-preserved-in-Ok c =
    let m = part_read name_parts id_of_parts c.loop-subsection.invariant.left (Ok c.in-Ok.subsection) c.in-Ok.is c.in-Some.ensures.steps in
    record {
      can = tt;
      finite = tt;
      parts = m.later;
      left = m.left;
      so_far = c.loop-subsection.invariant.so_far ∙ (ap (with_all with_subsection (texts_of c.loop-subsection.self.list)) m.takes
          ∙ ap (λ n. with_all with_subsection n (ascending id_of_parts c.next.new.self.last m.later)) (sym c.set_subsection.ensures));
    }

pub loop-subsection-preserved : goal.loop-subsection-preserved
loop-subsection-preserved c =
    let m = part_read name_parts id_of_parts c.loop-subsection.invariant.left (Err c.in_default.field-0) c.in_default.is
    c.in-Some.ensures.steps in
    record {
      can = tt;
      finite = tt;
      parts = m.later;
      left = m.left;
      so_far = c.loop-subsection.invariant.so_far ∙ ap (with_all with_subsection (texts_of c.loop-subsection.self.list)) m.takes;
    }

pub returns : goal.returns
returns c = sym (c.loop-subsection.invariant.so_far
    ∙ ap (λ parts. with_all with_subsection (texts_of c.loop-subsection.self.list)
    (ascending id_of_parts c.loop-subsection.subsection-iterator.last parts))
    (parts_over name_parts c.loop-subsection.invariant.left c.in-None.ensures.steps.order.0))
