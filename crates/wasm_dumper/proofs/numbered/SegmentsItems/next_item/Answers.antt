use Rattle.std.proofs.Common.{ap, sym, ◌∙◌}
use Rattle.wasm_dumper.specs.Walks.{OwesElements, element_reading}
use Rattle.wasm_items.specs.Elements.{element_at}
use Rattle.wasm_output.specs.declared.numbers.Space.TheVariants.{Elements}
use Rattle.wasm_show.specs.Lists.{element_seen, found_seen, left_seen, numbered_in}
use Rattle.wasm_show.proofs.ForCallers.{readings_agree}
use Rattle.wasm_dumper.proofs.Walked.{after_numbered, passed}
use Rattle.wasm_dumper.proofs.numbered.SegmentsItems.next_item.Goals as goal

pub returns-clause-owed : goal.returns-clause-owed
returns-clause-owed c deep level all o =
    let s = c.args.self.now in
    passed (λ n. OwesElements deep level n.index n.segments) (found_seen (element_seen deep) deep level) all _ _
    (record { segments = c.next.new.self; index = c.with_index.new.index }) c.with_index.ensures.found
    (after_numbered _ Elements (element_seen deep) deep level (element_reading deep level)
    (readings_agree (numbered_in Elements) (element_seen deep) deep level (λ x. x) element_at)
    (λ n. OwesElements deep level n.index n.segments) s.index s.segments c.next.new.self
    (record { segments = c.next.new.self; index = c.with_index.new.index }) c.next.result c.next.ensures.steps
    (λ later e. e ∙ ap (λ i. left_seen (element_reading deep level) i c.next.new.self) (sym c.with_index.ensures.next)) all o)
