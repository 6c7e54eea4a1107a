-- What a dynamic linker reads, as plain numbers.
use Rattle.std.specs.Prelude.{ℕ, ◌-◌, length, Ok, Err}
use Rattle.wasm_base.specs.Outcome.{Outcome}
use Rattle.wasm_base.specs.Window.{Place}
use Rattle.wasm_c_items.specs.Faults.{no_fault, plain_fault}
use Rattle.wasm_base.specs.Name.{window_at}
use Rattle.wasm_custom.specs.Dylink0.{ExportInfoParts, ImportInfoParts}
use Rattle.wasm_custom.specs.declared.dylink0.MemInfo.{MemInfo}
use Rattle.wasm_c_items.specs.Spans.{no_span, text_after, text_span}
use Rattle.wasm_c_items.specs.declared.dylink.PlainDylinkMemory.{PlainDylinkMemory}
use Rattle.wasm_c_items.specs.declared.dylink.PlainDylinkExport.{PlainDylinkExport}
use Rattle.wasm_c_items.specs.declared.dylink.PlainDylinkImport.{PlainDylinkImport}

-- what memory and table a library needs
abbrev pub plain_dylink_memory : (from : ℕ) → Place → Outcome MemInfo → PlainDylinkMemory
plain_dylink_memory from p (Ok x) = record {
  fault = no_fault;
  consumed = x.1.offset - p.offset;
  memory_size = x.0.memory_size;
  memory_alignment = x.0.memory_alignment;
  table_size = x.0.table_size;
  table_alignment = x.0.table_alignment;
}
plain_dylink_memory from p (Err f) = record {
  fault = plain_fault f;
  consumed = 0;
  memory_size = 0;
  memory_alignment = 0;
  table_size = 0;
  table_alignment = 0;
}

-- what is said of an export
abbrev pub plain_dylink_export : (from : ℕ) → Place → Outcome ExportInfoParts → PlainDylinkExport
plain_dylink_export from p (Ok x) = record {
  fault = no_fault;
  consumed = x.1.offset - p.offset;
  name = text_span from p (length x.0.name);
  flags = x.0.flags;
}
plain_dylink_export from p (Err f) = record {
  fault = plain_fault f;
  consumed = 0;
  name = no_span;
  flags = 0;
}

-- what is said of an import
abbrev pub plain_dylink_import : (from : ℕ) → Place → Outcome ImportInfoParts → PlainDylinkImport
plain_dylink_import from p (Ok x) = record {
  fault = no_fault;
  consumed = x.1.offset - p.offset;
  module_name = text_span from p (length x.0.from);
  field = text_after from (length x.0.field) (window_at p);
  flags = x.0.flags;
}
plain_dylink_import from p (Err f) = record {
  fault = plain_fault f;
  consumed = 0;
  module_name = no_span;
  field = no_span;
  flags = 0;
}
