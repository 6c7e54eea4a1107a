use Rattle.wasm_base.specs.Item.{ReadsAs}
use Rattle.wasm_custom.specs.BranchHinting.{function_hints_at}
use Rattle.wasm_show.specs.Lists.{OwesListing, hints_seen, found_seen, reading_by, unnumbered}
use Rattle.wasm_show.proofs.Listing.{after_read, passes_on, readings_agree, wrapped}
use Rattle.wasm_show.proofs.custom.HintsItems.next_item.Goals as goal

pub returns-clause-owed : goal.returns-clause-owed
returns-clause-owed c deep level =
    passes_on (λ f. OwesListing hints_seen function_hints_at deep level f.functions) (found_seen (hints_seen deep) deep level)
    c.args.self.now
    (record { functions = c.next.new.self }) _ _ c.without_number.ensures
    (λ all o. wrapped (OwesListing hints_seen function_hints_at deep level) (found_seen (hints_seen deep) deep level) (λ f. f.functions) all
    _
    (record { functions = c.next.new.self }) (after_read (ReadsAs (λ x. x) function_hints_at) hints_seen deep level _ _
    (reading_by unnumbered (hints_seen deep) deep level function_hints_at)
    (readings_agree unnumbered (hints_seen deep) deep level (λ x. x) function_hints_at) _
    c.next.ensures.steps all o))
