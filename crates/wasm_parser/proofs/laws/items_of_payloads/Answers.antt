use Rattle.wasm_parser.proofs.Common.{ReadsAs, unsigned_at, VarU32, data_id, function_id}
use Rattle.wasm_base.specs.Section.{AtItsOffset}
use Rattle.wasm_grammar.specs.Ids.{element_id, export_id, global_id, import_id, memory_id, table_id, tag_id}
use Rattle.wasm_items.specs.Data.{data_parts, data_at}
use Rattle.wasm_items.specs.Elements.{element_at}
use Rattle.wasm_items.specs.Exports.{export_parts, export_at}
use Rattle.wasm_items.specs.Globals.{global_at}
use Rattle.wasm_items.specs.Imports.{bundle_parts, bundle_at}
use Rattle.wasm_items.specs.Memories.{memory_type_at}
use Rattle.wasm_items.specs.Tables.{table_at}
use Rattle.wasm_items.specs.Tags.{tag_type_at}
use Rattle.wasm_parser.proofs.PayloadItems.{gives, gives_types}
use Rattle.wasm_parser.proofs.laws.items_of_payloads.Goals as goal

pub returns-clause-types : goal.returns-clause-types
returns-clause-types c = gives_types

pub returns-clause-imports : goal.returns-clause-imports
returns-clause-imports c id count w s (e, b) = gives (AtItsOffset (ReadsAs bundle_parts bundle_at)) import_id id count w s e b

pub returns-clause-functions : goal.returns-clause-functions
returns-clause-functions c id count w s (e, b) = gives (AtItsOffset (ReadsAs (λ index. index) (unsigned_at VarU32))) function_id id count w
    s e b

pub returns-clause-tables : goal.returns-clause-tables
returns-clause-tables c id count w s (e, b) = gives (AtItsOffset (ReadsAs (λ table. table) table_at)) table_id id count w s e b

pub returns-clause-memories : goal.returns-clause-memories
returns-clause-memories c id count w s (e, b) = gives (AtItsOffset (ReadsAs (λ memory. memory) memory_type_at)) memory_id id count w s e b

pub returns-clause-tags : goal.returns-clause-tags
returns-clause-tags c id count w s (e, b) = gives (AtItsOffset (ReadsAs (λ tag. tag) tag_type_at)) tag_id id count w s e b

pub returns-clause-globals : goal.returns-clause-globals
returns-clause-globals c id count w s (e, b) = gives (AtItsOffset (ReadsAs (λ global. global) global_at)) global_id id count w s e b

pub returns-clause-exports : goal.returns-clause-exports
returns-clause-exports c id count w s (e, b) = gives (AtItsOffset (ReadsAs export_parts export_at)) export_id id count w s e b

pub returns-clause-elements : goal.returns-clause-elements
returns-clause-elements c id count w s (e, b) = gives (AtItsOffset (ReadsAs (λ element. element) element_at)) element_id id count w s e b

pub returns-clause-segments : goal.returns-clause-segments
returns-clause-segments c id count w s (e, b) = gives (AtItsOffset (ReadsAs data_parts data_at)) data_id id count w s e b
