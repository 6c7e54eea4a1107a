use Rattle.std.proofs.Common.{ap, sym, ◌∙◌}
use Rattle.wasm_show.specs.Lists.{OwesBy, found_seen, left_seen, never_lists, numbered_in}
use Rattle.wasm_dumper.proofs.Walked.{after_numbered, passed}
use Rattle.wasm_dumper.proofs.numbered.NumberedItems.next_item.Goals as goal

pub returns-clause-owed : goal.returns-clause-owed
returns-clause-owed g c deep level all o =
    let s = c.args.self.now in
    passed (λ n. OwesBy g.T.FromReader.meaning (numbered_in n.space) never_lists deep level n.index n.items)
    (found_seen (never_lists deep) deep level) all _ _
    (record { items = c.next.new.self; space = s.space; index = c.with_index.new.index }) c.with_index.ensures.found
    (after_numbered g.T.FromReader.meaning s.space (never_lists deep) deep level o.0 o.1
    (λ n. OwesBy g.T.FromReader.meaning (numbered_in n.space) never_lists deep level n.index n.items) s.index s.items c.next.new.self
    (record { items = c.next.new.self; space = s.space; index = c.with_index.new.index }) c.next.result c.next.ensures.steps
    (λ later e. (o.0, o.1, e ∙ ap (λ i. left_seen o.0 i c.next.new.self) (sym c.with_index.ensures.next))) all o.2)
