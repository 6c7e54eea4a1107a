use Rattle.wasm_base.specs.Item.{ReadsAs}
use Rattle.wasm_custom.specs.Producers.{field_at, field_parts}
use Rattle.wasm_show.specs.Lists.{OwesListing, values_of_field, values_seen, found_seen, reading_by, unnumbered}
use Rattle.wasm_show.proofs.Listing.{after_read, passes_on, readings_agree, wrapped}
use Rattle.wasm_show.proofs.custom.FieldsItems.next_item.Goals as goal

pub returns-clause-owed : goal.returns-clause-owed
returns-clause-owed c deep level =
    passes_on (λ f. OwesListing values_seen field_at deep level f.fields) (found_seen (values_of_field deep) deep level) c.args.self.now
    (record { fields = c.next.new.self }) _ _ c.without_number.ensures
    (λ all o. wrapped (OwesListing values_seen field_at deep level) (found_seen (values_of_field deep) deep level) (λ f. f.fields) all _
    (record { fields = c.next.new.self }) (after_read (ReadsAs field_parts field_at) values_of_field deep level _ _
    (reading_by unnumbered (values_seen deep) deep level field_at)
    (readings_agree unnumbered (values_seen deep) deep level field_parts field_at) _
    c.next.ensures.steps all o))
