use Rattle.wasm_dumper.proofs.Common.{◌≡◌, sym, ap, subst, ◌∙◌, report_of, Base, first_in_objects, base_of, AddsFirst, numbered_line}
use Rattle.wasm_dumper.proofs.EventLines.{text_fed}
use Rattle.wasm_dumper.proofs.events.show_other_event.Goals as goal

pub returns-in-Lines : goal.returns-in-Lines
returns-in-Lines g c =
    let writing = g.O.Tree.writing in
    let report = report_of c.args.payload.now in
    let base = c.in-Lines.base in
    let same : base ≡ base_of (writing c.args.out.now).style = ap base_of (sym c.in-Lines.is ∙ c.style.ensures) in
    let line = rw (text_fed base c.args.counts.now report) at c.first_of_function.ensures in
    subst (λ (b : Base). AddsFirst (numbered_line b c.args.counts.now report) (writing c.args.out.now)
    (writing c.first_of_function.new.self)) same line

pub returns-in-Objects : goal.returns-in-Objects
returns-in-Objects g c =
    first_in_objects _ _ (sym c.style.ensures ∙ c.in-Objects.is) c.event_object.ensures
    (numbered_line (base_of (g.O.Tree.writing c.args.out.now).style) c.args.counts.now (report_of c.args.payload.now))
