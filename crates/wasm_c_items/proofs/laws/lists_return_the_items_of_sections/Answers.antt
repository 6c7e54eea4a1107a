use Rattle.wasm_c_items.proofs.SectionLists.{beside_iterator}
use Rattle.wasm_c_items.proofs.laws.lists_return_the_items_of_sections.Goals as goal

pub returns : goal.returns
returns g c = beside_iterator
