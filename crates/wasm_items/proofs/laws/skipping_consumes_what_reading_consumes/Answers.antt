use Rattle.wasm_items.proofs.PassedItems.{item_passed, expression_passed}
use Rattle.wasm_items.specs.Imports.{item_parts}
use Rattle.wasm_items.specs.Windows.{expression_window}
use Rattle.wasm_items.proofs.laws.skipping_consumes_what_reading_consumes.Goals as goal

pub returns-clause-item : goal.returns-clause-item
returns-clause-item c = λ p q x such reads. item_passed p q (item_parts x) reads

pub returns-clause-expression : goal.returns-clause-expression
returns-clause-expression c = λ p q x such reads. expression_passed p q (expression_window x) reads
