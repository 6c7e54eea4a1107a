use Rattle.wasm_base.proofs.OneOutcome.{reads_as_one}
use Rattle.wasm_items.specs.Exports.{export_parts, export_at}
use Rattle.wasm_items.specs.Externals.{kind_at}
use Rattle.wasm_items.specs.Globals.{global_at, global_type_at}
use Rattle.wasm_items.specs.Imports.{type_ref_at, import_parts, import_at, item_parts, item_at, bundle_parts, bundle_at}
use Rattle.wasm_items.specs.Init.{expression_at}
use Rattle.wasm_items.specs.Memories.{memory_type_at}
use Rattle.wasm_items.specs.Tables.{table_at, table_type_at}
use Rattle.wasm_items.specs.Tags.{tag_type_at}
use Rattle.wasm_items.specs.Values.{val_type_at, ref_type_at, heap_type_at}
use Rattle.wasm_items.specs.Windows.{expression_window}
use Rattle.wasm_items.proofs.laws.items_allow_one_outcome.Goals as goal

pub returns-clause-kind : goal.returns-clause-kind
returns-clause-kind c = reads_as_one (λ kind. kind) kind_at

pub returns-clause-external : goal.returns-clause-external
returns-clause-external c = reads_as_one (λ ty. ty) type_ref_at

pub returns-clause-import : goal.returns-clause-import
returns-clause-import c = reads_as_one import_parts import_at

pub returns-clause-item : goal.returns-clause-item
returns-clause-item c = reads_as_one item_parts item_at

pub returns-clause-imports : goal.returns-clause-imports
returns-clause-imports c = reads_as_one bundle_parts bundle_at

pub returns-clause-table : goal.returns-clause-table
returns-clause-table c = reads_as_one (λ table. table) table_at

pub returns-clause-memory : goal.returns-clause-memory
returns-clause-memory c = reads_as_one (λ memory. memory) memory_type_at

pub returns-clause-tag : goal.returns-clause-tag
returns-clause-tag c = reads_as_one (λ tag. tag) tag_type_at

pub returns-clause-global : goal.returns-clause-global
returns-clause-global c = reads_as_one (λ global. global) global_at

pub returns-clause-export : goal.returns-clause-export
returns-clause-export c = reads_as_one export_parts export_at

pub returns-clause-expression : goal.returns-clause-expression
returns-clause-expression c = reads_as_one expression_window expression_at

pub returns-clause-value : goal.returns-clause-value
returns-clause-value c = reads_as_one (λ ty. ty) val_type_at

pub returns-clause-reference : goal.returns-clause-reference
returns-clause-reference c = reads_as_one (λ ty. ty) ref_type_at

pub returns-clause-heap : goal.returns-clause-heap
returns-clause-heap c = reads_as_one (λ heap. heap) heap_type_at

pub returns-clause-table_type : goal.returns-clause-table_type
returns-clause-table_type c = reads_as_one (λ table. table) table_type_at

pub returns-clause-global_type : goal.returns-clause-global_type
returns-clause-global_type c = reads_as_one (λ global. global) global_type_at
