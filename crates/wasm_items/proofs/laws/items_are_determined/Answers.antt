use Rattle.wasm_base.proofs.OneOutcome.{reads_determine}
use Rattle.wasm_items.specs.Externals.{kind_at}
use Rattle.wasm_items.specs.Globals.{global_at, global_type_at}
use Rattle.wasm_items.specs.Imports.{type_ref_at}
use Rattle.wasm_items.specs.Memories.{memory_type_at}
use Rattle.wasm_items.specs.Tables.{table_at, table_type_at}
use Rattle.wasm_items.specs.Tags.{tag_type_at}
use Rattle.wasm_items.specs.Values.{val_type_at, ref_type_at, heap_type_at}
use Rattle.wasm_items.proofs.laws.items_are_determined.Goals as goal

pub returns-clause-kind : goal.returns-clause-kind
returns-clause-kind c = reads_determine kind_at

pub returns-clause-external : goal.returns-clause-external
returns-clause-external c = reads_determine type_ref_at

pub returns-clause-table : goal.returns-clause-table
returns-clause-table c = reads_determine table_at

pub returns-clause-memory : goal.returns-clause-memory
returns-clause-memory c = reads_determine memory_type_at

pub returns-clause-tag : goal.returns-clause-tag
returns-clause-tag c = reads_determine tag_type_at

pub returns-clause-global : goal.returns-clause-global
returns-clause-global c = reads_determine global_at

pub returns-clause-value : goal.returns-clause-value
returns-clause-value c = reads_determine val_type_at

pub returns-clause-reference : goal.returns-clause-reference
returns-clause-reference c = reads_determine ref_type_at

pub returns-clause-heap : goal.returns-clause-heap
returns-clause-heap c = reads_determine heap_type_at

pub returns-clause-table_type : goal.returns-clause-table_type
returns-clause-table_type c = reads_determine table_type_at

pub returns-clause-global_type : goal.returns-clause-global_type
returns-clause-global_type c = reads_determine global_type_at
