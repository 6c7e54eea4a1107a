-- Imports as plain numbers.
use Rattle.std.specs.Prelude.{ℕ, ◌-◌, List, length, Some, Ok, Err, nat_eq, if◌then◌else◌}
use Rattle.wasm_base.specs.Name.{name_limit, text_at, window_at}
use Rattle.wasm_base.specs.Outcome.{Outcome}
use Rattle.wasm_base.specs.Window.{Place}
use Rattle.wasm_items.specs.Imports.{Bundle, ItemParts, item_at, single, of_module, of_type}
use Rattle.wasm_items.specs.declared.imports.TypeRef.{TypeRef}
use Rattle.wasm_items.specs.declared.imports.TypeRef.TheVariants.{Func, Table, Memory, Global, Tag, FuncExact}
use Rattle.wasm_c_items.specs.Faults.{no_fault, plain_fault}
use Rattle.wasm_c_items.specs.Kinds.{no_global_type, no_memory_type, no_table_type, plain_global_type}
use Rattle.wasm_c_items.specs.Kinds.{plain_memory_type, plain_table_type}
use Rattle.wasm_c_items.specs.Readable.{item_over}
use Rattle.wasm_c_items.specs.Spans.{items_span, no_span, text_after, text_span}
use Rattle.wasm_c_items.specs.declared.imports.PlainImport.{PlainImport}
use Rattle.wasm_c_items.specs.declared.imports.PlainImportItem.{PlainImportItem}
use Rattle.wasm_c_items.specs.declared.imports.PlainImportType.{PlainImportType}
use Rattle.wasm_c_items.specs.declared.imports.PlainName.{PlainName}

-- what is imported, by its kind and an index
abbrev pub indexed_type : (kind index : ℕ) → PlainImportType
indexed_type kind index = record {
  kind = kind;
  index = index;
  table = no_table_type;
  memory = no_memory_type;
  global = no_global_type;
}

abbrev pub plain_import_type : TypeRef → PlainImportType
plain_import_type (Func index) = indexed_type 0 index
plain_import_type (Table table) = record (indexed_type 1 0) { table = plain_table_type table }
plain_import_type (Memory memory) = record (indexed_type 2 0) { memory = plain_memory_type memory }
plain_import_type (Global global) = record (indexed_type 3 0) { global = plain_global_type global }
plain_import_type (Tag tag) = indexed_type 4 tag.func_type_idx
plain_import_type (FuncExact index) = indexed_type 5 index

-- a fault in place of an import
abbrev pub no_import : PlainImport
no_import = record {
  fault = no_fault;
  consumed = 0;
  module_name = no_span;
  name = no_span;
  ty = indexed_type 0 0;
  items = no_span;
  kind = 0;
  count = 0;
}

-- an import, or the head of a bundle, that takes this many bytes from a place on
abbrev pub import_from : (from : ℕ) → Place → (consumed : ℕ) → Bundle → PlainImport
import_from from p consumed (single offset one) = record no_import {
  consumed = consumed;
  module_name = text_span from p (length one.from);
  name = text_after from (length one.name) (window_at p);
  ty = plain_import_type one.ty;
  count = 1;
}
import_from from p consumed (of_module origin items) = record no_import {
  consumed = consumed;
  module_name = text_span from p (length origin);
  items = items_span from items;
  kind = 1;
  count = items.count;
}
import_from from p consumed (of_type origin ty names) = record no_import {
  consumed = consumed;
  module_name = text_span from p (length origin);
  ty = plain_import_type ty;
  items = items_span from names;
  kind = 2;
  count = names.count;
}

-- an import, or a bundle of imports
abbrev pub plain_import : (from : ℕ) → Place → Outcome Bundle → PlainImport
plain_import from p (Ok x) = import_from from p (x.1.offset - p.offset) x.0
plain_import from p (Err f) = record no_import { fault = plain_fault f }

-- an import of a bundle of one module
abbrev pub plain_import_item : (from : ℕ) → Place → Outcome ItemParts → PlainImportItem
plain_import_item from p (Ok x) = record {
  fault = no_fault;
  consumed = x.1.offset - p.offset;
  name = text_span from p (length x.0.name);
  ty = plain_import_type x.0.ty;
}
plain_import_item from p (Err f) =
    record { fault = plain_fault f; consumed = 0; name = no_span; ty = indexed_type 0 0 }

-- a name
abbrev pub plain_name : (from : ℕ) → Place → Outcome (List ℕ) → PlainName
plain_name from p (Ok x) = record {
  fault = no_fault;
  consumed = x.1.offset - p.offset;
  name = text_span from p (length x.0);
}
plain_name from p (Err f) = record { fault = plain_fault f; consumed = 0; name = no_span }

-- an import that is a name, and has the type of its bundle
abbrev pub plain_named : PlainImportType → (from : ℕ) → Place → Outcome (List ℕ) → PlainImportItem
plain_named ty from p (Ok x) = record {
  fault = no_fault;
  consumed = x.1.offset - p.offset;
  name = text_span from p (length x.0);
  ty = ty;
}
plain_named ty from p (Err f) = plain_import_item from p (Err f)

-- an import of a bundle where these bytes begin: a name of one type's bundle, and else a name and what it is
abbrev pub bundled_over : PlainImport → (features offset : ℕ) → List ℕ → PlainImportItem
bundled_over bundle features offset bytes =
    if nat_eq bundle.kind 2
    then item_over (plain_named bundle.ty) (text_at (Some name_limit)) features offset bytes
    else
    item_over plain_import_item item_at features offset bytes
