use Rattle.wasm_items.specs.Flattened.{found_at, found}
use Rattle.wasm_items.proofs.ToCome.{gives_all}
use Rattle.wasm_items.proofs.laws.all_imports_come.Goals as goal

pub returns-clause-of_an_item : goal.returns-clause-of_an_item
returns-clause-of_an_item c = gives_all found_at

pub returns-clause-with_offsets : goal.returns-clause-with_offsets
returns-clause-with_offsets c = gives_all found_at

pub returns-clause-alone : goal.returns-clause-alone
returns-clause-alone c = gives_all found
