use Rattle.wasm_items.proofs.Same.{import, item, export}
use Rattle.wasm_items.proofs.laws.equal_imports_and_exports_are_the_same.Goals as goal

pub returns-clause-import : goal.returns-clause-import
returns-clause-import c = import

pub returns-clause-item : goal.returns-clause-item
returns-clause-item c = item

pub returns-clause-export : goal.returns-clause-export
returns-clause-export c = export
