use Rattle.wasm_base.proofs.Deciding.{item_or_fault}
use Rattle.wasm_items.proofs.Same.{value, reference, field, storage, table, memory, global, external, heap}
use Rattle.wasm_items.proofs.laws.equal_types_are_the_same.Goals as goal

pub returns-clause-value : goal.returns-clause-value
returns-clause-value c = item_or_fault value

pub returns-clause-reference : goal.returns-clause-reference
returns-clause-reference c = item_or_fault reference

pub returns-clause-field : goal.returns-clause-field
returns-clause-field c = item_or_fault field

pub returns-clause-storage : goal.returns-clause-storage
returns-clause-storage c = item_or_fault storage

pub returns-clause-table : goal.returns-clause-table
returns-clause-table c = item_or_fault table

pub returns-clause-memory : goal.returns-clause-memory
returns-clause-memory c = item_or_fault memory

pub returns-clause-global : goal.returns-clause-global
returns-clause-global c = item_or_fault global

pub returns-clause-external : goal.returns-clause-external
returns-clause-external c = item_or_fault external

pub returns-clause-heap : goal.returns-clause-heap
returns-clause-heap c = item_or_fault heap
