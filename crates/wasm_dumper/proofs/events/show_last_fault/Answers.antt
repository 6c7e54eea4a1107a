use Rattle.wasm_dumper.proofs.Common.{◌≡◌, sym, ap, subst, ◌∙◌, fault_at, fault, stream_end, line_in, Base, first_in_objects, base_of}
use Rattle.wasm_dumper.proofs.Common.{AddsFirst}
use Rattle.wasm_dumper.proofs.events.show_last_fault.Goals as goal

pub returns-in-Lines : goal.returns-in-Lines
returns-in-Lines g c =
    let writing = g.O.Tree.writing in
    let same : c.in-Lines.base ≡ base_of (writing c.args.out.now).style = ap base_of (sym c.in-Lines.is ∙ c.style.ensures) in
    subst (λ (b : Base). AddsFirst (line_in b (stream_end (fault (fault_at c.args.error.now)))) (writing c.args.out.now)
    (writing c.first_of_function.new.self)) same c.first_of_function.ensures

pub returns-in-Objects : goal.returns-in-Objects
returns-in-Objects g c =
    first_in_objects _ _ (sym c.style.ensures ∙ c.in-Objects.is) c.fault_object.ensures
    (line_in (base_of (g.O.Tree.writing c.args.out.now).style) (stream_end (fault (fault_at c.args.error.now))))
