-- Tables, memories, tags and globals as plain numbers.
use Rattle.std.specs.Prelude.{ℕ, ◌-◌, Ok, Err}
use Rattle.wasm_base.specs.Outcome.{Outcome}
use Rattle.wasm_base.specs.Window.{Place}
use Rattle.wasm_items.specs.Windows.{expression_window}
use Rattle.wasm_items.specs.declared.globals.Global.{Global}
use Rattle.wasm_items.specs.declared.tables.Table.{Table}
use Rattle.wasm_items.specs.declared.tables.TableInit.{TableInit}
use Rattle.wasm_items.specs.declared.tables.TableInit.TheVariants.{RefNull, Expr}
use Rattle.wasm_items.specs.declared.types.GlobalType.{GlobalType}
use Rattle.wasm_items.specs.declared.types.MemoryType.{MemoryType}
use Rattle.wasm_items.specs.declared.types.TableType.{TableType}
use Rattle.wasm_items.specs.declared.types.TagType.{TagType}
use Rattle.wasm_c_items.specs.Faults.{no_fault, number_flag, number_or_0, plain_fault}
use Rattle.wasm_c_items.specs.Spans.{flag, no_span, window_span}
use Rattle.wasm_c_items.specs.Values.{plain_ref, plain_type, simple_type}
use Rattle.wasm_c_items.specs.declared.kinds.PlainGlobal.{PlainGlobal}
use Rattle.wasm_c_items.specs.declared.kinds.PlainGlobalType.{PlainGlobalType}
use Rattle.wasm_c_items.specs.declared.kinds.PlainMemory.{PlainMemory}
use Rattle.wasm_c_items.specs.declared.kinds.PlainMemoryType.{PlainMemoryType}
use Rattle.wasm_c_items.specs.declared.kinds.PlainTable.{PlainTable}
use Rattle.wasm_c_items.specs.declared.kinds.PlainTableType.{PlainTableType}
use Rattle.wasm_c_items.specs.declared.kinds.PlainTag.{PlainTag}
use Rattle.wasm_c_items.specs.declared.spans.PlainSpan.{PlainSpan}

abbrev pub plain_table_type : TableType → PlainTableType
plain_table_type t = record {
  element = plain_ref t.element_type;
  table64 = flag t.table64;
  shared = flag t.shared;
  has_maximum = number_flag t.maximum;
  initial = t.initial;
  maximum = number_or_0 t.maximum;
}

abbrev pub no_table_type : PlainTableType
no_table_type =
    record { element = simple_type 0; table64 = 0; shared = 0; has_maximum = 0; initial = 0; maximum = 0 }

abbrev pub plain_memory_type : MemoryType → PlainMemoryType
plain_memory_type m = record {
  memory64 = flag m.memory64;
  shared = flag m.shared;
  has_maximum = number_flag m.maximum;
  has_page_size = number_flag m.page_size_log2;
  page_size_log2 = number_or_0 m.page_size_log2;
  initial = m.initial;
  maximum = number_or_0 m.maximum;
}

abbrev pub no_memory_type : PlainMemoryType
no_memory_type = record {
  memory64 = 0;
  shared = 0;
  has_maximum = 0;
  has_page_size = 0;
  page_size_log2 = 0;
  initial = 0;
  maximum = 0;
}

abbrev pub plain_global_type : GlobalType → PlainGlobalType
plain_global_type g = record {
  content = plain_type g.content_type;
  is_mutable = flag g.mutable;
  shared = flag g.shared;
}

abbrev pub no_global_type : PlainGlobalType
no_global_type = record { content = simple_type 0; is_mutable = 0; shared = 0 }

abbrev pub has_expression : TableInit → ℕ
has_expression RefNull = 0
has_expression (Expr e) = 1

-- the expression of a table's elements, if there is one
abbrev pub init_span : (from : ℕ) → TableInit → PlainSpan
init_span from RefNull = no_span
init_span from (Expr e) = window_span from (expression_window e)

-- a table
abbrev pub plain_table : (from : ℕ) → Place → Outcome Table → PlainTable
plain_table from p (Ok x) = record {
  fault = no_fault;
  consumed = x.1.offset - p.offset;
  ty = plain_table_type x.0.ty;
  init = init_span from x.0.init;
  has_init = has_expression x.0.init;
}
plain_table from p (Err f) =
    record { fault = plain_fault f; consumed = 0; ty = no_table_type; init = no_span; has_init = 0 }

-- a memory
abbrev pub plain_memory : (from : ℕ) → Place → Outcome MemoryType → PlainMemory
plain_memory from p (Ok x) =
    record { fault = no_fault; consumed = x.1.offset - p.offset; ty = plain_memory_type x.0 }
plain_memory from p (Err f) = record { fault = plain_fault f; consumed = 0; ty = no_memory_type }

-- a tag
abbrev pub plain_tag : (from : ℕ) → Place → Outcome TagType → PlainTag
plain_tag from p (Ok x) =
    record { fault = no_fault; consumed = x.1.offset - p.offset; func_type_index = x.0.func_type_idx }
plain_tag from p (Err f) = record { fault = plain_fault f; consumed = 0; func_type_index = 0 }

-- a global
abbrev pub plain_global : (from : ℕ) → Place → Outcome Global → PlainGlobal
plain_global from p (Ok x) = record {
  fault = no_fault;
  consumed = x.1.offset - p.offset;
  ty = plain_global_type x.0.ty;
  init = window_span from (expression_window x.0.init_expr);
}
plain_global from p (Err f) = record { fault = plain_fault f; consumed = 0; ty = no_global_type; init = no_span }

-- a table type alone
abbrev pub plain_table_alone : (from : ℕ) → Place → Outcome TableType → PlainTable
plain_table_alone from p (Ok x) = record {
  fault = no_fault;
  consumed = x.1.offset - p.offset;
  ty = plain_table_type x.0;
  init = no_span;
  has_init = 0;
}
plain_table_alone from p (Err f) = plain_table from p (Err f)

-- a global type alone
abbrev pub plain_global_alone : (from : ℕ) → Place → Outcome GlobalType → PlainGlobal
plain_global_alone from p (Ok x) =
    record { fault = no_fault; consumed = x.1.offset - p.offset; ty = plain_global_type x.0; init = no_span }
plain_global_alone from p (Err f) = plain_global from p (Err f)
