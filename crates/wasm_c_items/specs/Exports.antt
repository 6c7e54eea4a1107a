-- Exports as plain numbers.
use Rattle.std.specs.Prelude.{ℕ, ◌-◌, length, Ok, Err}
use Rattle.wasm_base.specs.Outcome.{Outcome}
use Rattle.wasm_base.specs.Window.{Place}
use Rattle.wasm_items.specs.Exports.{ExportParts}
use Rattle.wasm_items.specs.declared.exports.ExternalKind.{ExternalKind}
use Rattle.wasm_items.specs.declared.exports.ExternalKind.TheVariants.{Func, Table, Memory, Global, Tag, FuncExact}
use Rattle.wasm_c_items.specs.Faults.{no_fault, plain_fault}
use Rattle.wasm_c_items.specs.Spans.{no_span, text_span}
use Rattle.wasm_c_items.specs.declared.exports.PlainExport.{PlainExport}

abbrev pub external_code : ExternalKind → ℕ
external_code Func = 0
external_code Table = 1
external_code Memory = 2
external_code Global = 3
external_code Tag = 4
external_code FuncExact = 5

-- an export
abbrev pub plain_export : (from : ℕ) → Place → Outcome ExportParts → PlainExport
plain_export from p (Ok x) = record {
  fault = no_fault;
  consumed = x.1.offset - p.offset;
  name = text_span from p (length x.0.name);
  kind = external_code x.0.kind;
  index = x.0.index;
}
plain_export from p (Err f) = record { fault = plain_fault f; consumed = 0; name = no_span; kind = 0; index = 0 }
