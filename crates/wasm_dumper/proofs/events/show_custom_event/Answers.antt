use Rattle.wasm_dumper.proofs.Common.{◌≡◌, ◌++◌, sym, ap, subst, ◌∙◌, Base, first_in_objects, base_of, AddsFirst}
use Rattle.std.proofs.Common.{codes}
use Rattle.wasm_dumper.specs.Chosen.{fields_part, outlined_text}
use Rattle.wasm_dumper.proofs.events.show_custom_event.Goals as goal

pub returns-in-Lines : goal.returns-in-Lines
returns-in-Lines g c =
    let writing = g.O.Tree.writing in
    let same : c.in-Lines.base ≡ base_of (writing c.args.out.now).style = ap base_of (sym c.in-Lines.is ∙ c.style.ensures) in
    subst (λ (b : Base). AddsFirst (outlined_text b (fields_part c.args.fields) ++ codes "\n") (writing c.args.out.now)
    (writing c.first_named.new.self)) same c.first_named.ensures

pub returns-in-Objects : goal.returns-in-Objects
returns-in-Objects g c =
    first_in_objects _ _ (sym c.style.ensures ∙ c.in-Objects.is) c.custom_object.ensures
    (outlined_text (base_of (g.O.Tree.writing c.args.out.now).style) (fields_part c.args.fields) ++ codes "\n")
