use Rattle.wasm_base.specs.Item.{ReadsAs}
use Rattle.wasm_custom.specs.Linking.{comdat_at, comdat_parts}
use Rattle.wasm_show.specs.Lists.{OwesListing, comdat_seen, symbols_of_comdat, found_seen, reading_by, unnumbered}
use Rattle.wasm_show.proofs.Listing.{after_read, passes_on, readings_agree, wrapped}
use Rattle.wasm_show.proofs.linking.ComdatsItems.next_item.Goals as goal

pub returns-clause-owed : goal.returns-clause-owed
returns-clause-owed c deep level =
    passes_on (λ f. OwesListing comdat_seen comdat_at deep level f.comdats) (found_seen (symbols_of_comdat deep) deep level) c.args.self.now
    (record { comdats = c.next.new.self }) _ _ c.without_number.ensures
    (λ all o. wrapped (OwesListing comdat_seen comdat_at deep level) (found_seen (symbols_of_comdat deep) deep level) (λ f. f.comdats) all _
    (record { comdats = c.next.new.self }) (after_read (ReadsAs comdat_parts comdat_at) symbols_of_comdat deep level _ _
    (reading_by unnumbered (comdat_seen deep) deep level comdat_at)
    (readings_agree unnumbered (comdat_seen deep) deep level comdat_parts comdat_at) _
    c.next.ensures.steps all o))
